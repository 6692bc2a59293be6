-- Loads are at most plain loads plus charge, after every history of calls. Assumes nothing.
use Rattle.std.proofs.Common.{◌≡◌, ℕ, ◌+◌, ◌≤◌, Bool, true, false, cond, eqb, ltb, List, [], ◌∷◌, length, Some, None, Option, sym, refl, ap, ◌∙◌, subst, arith}
use Rattle.std.proofs.lemmas.Bool.{and_parts, eqb-true, leb-true}
use Rattle.recency.specs.Blocks.{has}
use Rattle.recency.specs.Rows.{empty_row, row_step}
use Rattle.task.specs.Blocks.{access_at}
use Rattle.task.specs.Contents.{TaskContents}
use Rattle.task.specs.Legal.{legal}
use Rattle.task.proofs.Drafting.{kept}
use Rattle.ledger.specs.Ledger.{Setting, Ledger, barred, block_of, cause, cause_in, load, new_ledger, obeyed, or_else, plain_load, row_moved, successors_at, unless, unless_refused}
use Rattle.ledger.specs.Histories.{Heard, HitsWhatTheRowHas, Honest, LoadsAreBounded, LoadsWithin, ledger_of, row_after}
use Rattle.ledger.specs.declared.Call.{Call}
use Rattle.ledger.specs.declared.Call.TheVariants.{Step, Finish, Interrupt, Touch, Resume}
use Rattle.ledger.specs.declared.State.{State}
use Rattle.ledger.specs.declared.State.TheVariants.{Walking, Interrupted, Ended}
use Rattle.soundness.specs.Flows.{Fits, SettledAlongEdges}
use Rattle.soundness.specs.Runs as runs
use Rattle.soundness.specs.Runs.{Event, step, finish, interrupt, touch, resume, Mode, walking, interrupted, ended, Allowed, loads, plain_loads, charge}
use Rattle.soundness.proofs.Bounded.{loads_bounded}
use Rattle.flows.specs.Of.{findings_of, flow_of}
use Rattle.flows.proofs.Facts.{own_block}
use Rattle.flows.proofs.Aging.{ages_along, reuses_along}
use Rattle.flows.proofs.Conflicting.{conflicts_along}
use Rattle.flows.proofs.Using.{uses_along}
use Rattle.flows.proofs.Counting.{same_resilient}

pub fits : (t : TaskContents) → legal t ≡ true → Fits (flow_of t)
fits t lawful =
    let parameters = and_parts _ _ (kept t (and_parts _ _ lawful).0).parameters in
    let sets : 1 ≤ t.sets = leb-true _ _ (and_parts _ _ parameters.0).0 in
    let ways : 1 ≤ t.ways = leb-true _ _ (and_parts _ _ (and_parts _ _ parameters.1).0).0 in
    record { some_set = omega arith; some_way = omega arith; own = own_block t lawful }

-- the settled tables of a legal task obey the rules along each edge
pub settled_along_edges : (t : TaskContents) → legal t ≡ true → SettledAlongEdges (flow_of t) (findings_of t)
settled_along_edges t lawful = record { ages = ages_along t lawful; reuses = reuses_along t lawful; conflicting = conflicts_along t lawful; widening = uses_along t lawful }

abbrev mode_of : State → Mode
mode_of Walking = walking
mode_of Interrupted = interrupted
mode_of Ended = ended

abbrev event_of : Call → Bool → Event
event_of (Step q) hit = step hit q
event_of Finish hit = finish hit
event_of Interrupt hit = interrupt
event_of (Touch b) hit = touch b
event_of Resume hit = resume

some_none : {X : Type 0} (n : ℕ) → ◌≡◌ {A = Option ℕ} (Some n) None → X
some_none n e = let z : ◌≡◌ {A = ℕ} 0 1 = cc in absurd (omega arith)

unless_true : (b : Bool) (n : ℕ) → unless b n ≡ None → b ≡ true
unless_true true n e = refl
unless_true false n e = some_none n e

limited : (b c : Bool) (m n : ℕ) → cond b (unless c m) (Some n) ≡ None → c ≡ true
limited true c m n e = unless_true c m e
limited false c m n e = some_none n e

-- a setting whose cache has the task's sets, and its ways for life
abbrev open_setting : TaskContents → ℕ → Setting
open_setting t room = record { task = t; room = room; sets = t.sets; life = t.ways }

module _ (t : TaskContents) (lawful : legal t ≡ true) (room : ℕ) where
  same_row : (o : Option ℕ) (row : List (List ℕ)) → row_moved t.sets t.ways o row ≡ runs.row_moved (flow_of t) o row
  same_row None row = refl
  same_row (Some b) row = refl

  same_load : (o : Option ℕ) (hit : Bool) → load o hit ≡ runs.load o hit
  same_load None hit = refl
  same_load (Some b) hit = refl

  same_plain : (o : Option ℕ) (row : List (List ℕ)) → plain_load t.sets o row ≡ runs.plain_load (flow_of t) o row
  same_plain None row = refl
  same_plain (Some b) row = refl

  honest_same : (o : Option ℕ) (hit : Bool) (row : List (List ℕ)) → HitsWhatTheRowHas (open_setting t room) o hit row → runs.Honest (flow_of t) o hit row
  honest_same None hit row h = tt
  honest_same (Some b) hit row h = h

  -- an obeyed call is an event that may follow
  allows : (call : Call) (state : State) (L : Ledger) (hit : Bool) (row : List (List ℕ)) (es : List Event) → L.state ≡ state → cause_in (open_setting t room) L state call ≡ None →
      HitsWhatTheRowHas (open_setting t room) (block_of (open_setting t room) L call) hit row →
      Allowed (flow_of t) (mode_of (obeyed (open_setting t room) L call hit).state) (obeyed (open_setting t room) L call hit).point (row_moved t.sets t.ways (block_of (open_setting t room) L call) row) es →
      Allowed (flow_of t) (mode_of state) L.point row (event_of call hit ∷ es)
  allows (Step q) Walking L hit row es is e h a = (
    limited _ (has q (successors_at t.points L.point)) 18 21 e,
    honest_same (access_at t.points L.point) hit row h,
    subst (λ r. Allowed (flow_of t) walking q r es) (same_row (access_at t.points L.point) row) a,
  )
  allows (Step q) Interrupted L hit row es is e h a = some_none 16 e
  allows (Step q) Ended L hit row es is e h a = some_none 23 e
  allows Finish Walking L hit row es is e h a = (
    honest_same (access_at t.points L.point) hit row h,
    subst (λ r. Allowed (flow_of t) ended L.point r es) (same_row (access_at t.points L.point) row) a,
  )
  allows Finish Interrupted L hit row es is e h a = some_none 16 e
  allows Finish Ended L hit row es is e h a = some_none 23 e
  allows Interrupt Walking L hit row es is e h a = a
  allows Interrupt Interrupted L hit row es is e h a = some_none 16 e
  allows Interrupt Ended L hit row es is e h a = some_none 23 e
  allows (Touch b) Walking L hit row es is e h a = some_none 17 e
  allows (Touch b) Interrupted L hit row es is e h a = (unless_true _ 20 e, subst (λ s. Allowed (flow_of t) (mode_of s) L.point (row_step t.sets t.ways b row) es) is a)
  allows (Touch b) Ended L hit row es is e h a = some_none 23 e
  allows Resume Walking L hit row es is e h a = some_none 17 e
  allows Resume Interrupted L hit row es is e h a = a
  allows Resume Ended L hit row es is e h a = some_none 23 e

  -- the events es from a ledger on make a whole run
  record Told (L : Ledger) (es : List Event) : Type 0 where
    whole : List Event
    allowed : Allowed (flow_of t) walking 0 (empty_row t.sets) whole
    loaded : loads (flow_of t) 0 whole ≡ L.counts.loads + loads (flow_of t) L.point es
    plain_loaded : plain_loads (flow_of t) 0 (empty_row t.sets) whole ≡ L.counts.plain + plain_loads (flow_of t) L.point L.plain es
    charged : charge (flow_of t) (findings_of t) 0 whole ≡ L.counts.charge + charge (flow_of t) (findings_of t) L.point es

  -- the counts move by the same event
  told_more : (call : Call) (L : Ledger) (hit : Bool) (es : List Event) → Told L (event_of call hit ∷ es) → Told (obeyed (open_setting t room) L call hit) es
  told_more (Step q) L hit es k =
      let o = access_at t.points L.point in
      record {
        whole = k.whole;
        allowed = k.allowed;
        loaded = let e = same_load o hit in omega (arith, k.loaded, e);
        plain_loaded =
            let e = same_plain o L.plain in
            let f = ap (λ r. plain_loads (flow_of t) q r es) (same_row o L.plain) in omega (arith, k.plain_loaded, e, f);
        charged = k.charged;
      }
  told_more Finish L hit es k =
      let o = access_at t.points L.point in
      record {
        whole = k.whole;
        allowed = k.allowed;
        loaded = let e = same_load o hit in omega (arith, k.loaded, e);
        plain_loaded =
            let e = same_plain o L.plain in
            let f = ap (λ r. plain_loads (flow_of t) L.point r es) (same_row o L.plain) in omega (arith, k.plain_loaded, e, f);
        charged = k.charged;
      }
  told_more Interrupt L hit es k = record {
    whole = k.whole;
    allowed = k.allowed;
    loaded = k.loaded;
    plain_loaded = k.plain_loaded;
    charged = let e = same_resilient t lawful L.point in omega (arith, k.charged, e);
  }
  told_more (Touch b) L hit es k = record { whole = k.whole; allowed = k.allowed; loaded = k.loaded; plain_loaded = k.plain_loaded; charged = k.charged }
  told_more Resume L hit es k = record { whole = k.whole; allowed = k.allowed; loaded = k.loaded; plain_loaded = k.plain_loaded; charged = k.charged }

  told_next : barred (open_setting t room) ≡ None → (x : Heard) (L : Ledger) (row : List (List ℕ)) (es : List Event) (o : Option ℕ) → cause (open_setting t room) L x.call ≡ o →
      HitsWhatTheRowHas (open_setting t room) (unless_refused o (block_of (open_setting t room) L x.call) None) x.hit row →
      Allowed (flow_of t) (mode_of (unless_refused o (obeyed (open_setting t room) L x.call x.hit) L).state) (unless_refused o (obeyed (open_setting t room) L x.call x.hit) L).point (row_moved t.sets t.ways (unless_refused o (block_of (open_setting t room) L x.call) None) row) es →
      ((more : List Event) → Allowed (flow_of t) (mode_of L.state) L.point row more → Told L more) →
      Told (unless_refused o (obeyed (open_setting t room) L x.call x.hit) L) es
  told_next free x L row es None e hit a ih =
      told_more x.call L x.hit es
      (ih (event_of x.call x.hit ∷ es)
      (allows x.call L.state L x.hit row es refl (sym (ap (λ o. or_else o (cause_in (open_setting t room) L L.state x.call)) free) ∙ e) hit a))
  told_next free x L row es (Some n) e hit a ih = ih es a

  told : barred (open_setting t room) ≡ None → (h : List Heard) (es : List Event) → Honest (open_setting t room) h →
      Allowed (flow_of t) (mode_of (ledger_of (open_setting t room) h).state) (ledger_of (open_setting t room) h).point (row_after (open_setting t room) h) es → Told (ledger_of (open_setting t room) h) es
  told free [] es hon a = record { whole = es; allowed = a; loaded = omega arith; plain_loaded = omega arith; charged = omega arith }
  told free (x ∷ h) es hon a =
      told_next free x (ledger_of (open_setting t room) h) (row_after (open_setting t room) h) es (cause (open_setting t room) (ledger_of (open_setting t room) h) x.call) refl hon.0 a
      (λ more b. told free h more hon.1 b)

  bounded_open : barred (open_setting t room) ≡ None → (h : List Heard) → Honest (open_setting t room) h → LoadsWithin (ledger_of (open_setting t room) h)
  bounded_open free h hon =
      let k = told free h [] hon tt in
      let b = loads_bounded (flow_of t) (findings_of t) (fits t lawful) (settled_along_edges t lawful) k.whole k.allowed in
      omega (arith, k.loaded, k.plain_loaded, k.charged, b)

-- a barred bench obeys nothing
barred_stays : (S : Setting) (n : ℕ) → barred S ≡ Some n → (h : List Heard) → ledger_of S h ≡ new_ledger S
barred_stays S n e [] = refl
barred_stays S n e (x ∷ h) =
    ap (λ o. unless_refused (or_else o (cause_in S (ledger_of S h) (ledger_of S h).state x.call)) (obeyed S (ledger_of S h) x.call x.hit) (ledger_of S h)) e ∙ barred_stays S n e h

-- what is not barred has the task's sets, and its ways for life
free_parts : (short sets life : Bool) → cond {A = Option ℕ} short (Some 10) (cond sets (cond life None (Some 15)) (Some 14)) ≡ None → (sets ≡ true) × (life ≡ true)
free_parts true sets life e = some_none 10 e
free_parts false true true e = (refl, refl)
free_parts false true false e = some_none 15 e
free_parts false false life e = some_none 14 e

pub loads_are_bounded : LoadsAreBounded
loads_are_bounded S lawful h hon = go (barred S) refl where
  go : (o : Option ℕ) → barred S ≡ o → LoadsWithin (ledger_of S h)
  go (Some n) e = subst LoadsWithin (sym (barred_stays S n e h)) (omega arith)
  go None e =
      let parts = free_parts (ltb S.room (length S.task.points)) (eqb S.sets S.task.sets) (eqb S.life S.task.ways) e in
      let sets = eqb-true S.sets S.task.sets parts.0 in
      let life = eqb-true S.life S.task.ways parts.1 in
      let same : S ≡ open_setting S.task S.room = λ i. record { task = S.task; room = S.room; sets = sets i; life = life i } in
      subst (λ (T : Setting). LoadsWithin (ledger_of T h)) (sym same)
      (bounded_open S.task lawful S.room (subst (λ (T : Setting). barred T ≡ None) same e) h (subst (λ (T : Setting). Honest T h) same hon))
