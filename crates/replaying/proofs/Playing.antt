-- One more call on a run. Assumes nothing.
use Rattle.std.proofs.Common.{◌≡◌, ℕ, List, [], ◌∷◌, ◌++◌, Some, None, Option, sym, refl, ap, ◌∙◌, subst, append_assoc}
use Rattle.std.specs.List.{AllByRecursion as All}
use Rattle.std.proofs.lemmas.List.{append-nil}
use Rattle.recency.specs.Rows.{row_run, row_step}
use Rattle.recency.proofs.Runs.{run_append}
use Rattle.cache.specs.declared.Cache.{Ghosts}
use Rattle.ledger.specs.Ledger.{Setting, Ledger, accessed, after}
use Rattle.ledger.specs.declared.Call.{Call}
use Rattle.bench.specs.Benches.{Accesses, Called, said_hit}
use Rattle.replaying.specs.Replays.{Plays, accesses_of, blocks_in}
use Rattle.replaying.specs.declared.Played.{Played}

pub all_more : (P : Played → Type 0) (xs : List Played) (x : Played) → All P xs → P x → All P (xs ++ (x ∷ []))
all_more P [] x h k = (k, tt)
all_more P (y ∷ ys) x h k = (h.0, all_more P ys x h.1 k)

module _ {C : Type 0} (g : Ghosts C) where
  pub plays_more : (S : Setting) (calls : List Call) (c : C) (L : Ledger) (played : List Played) (d : C) (M : Ledger) (call : Call) (x : Played) (e : C) (K : Ledger) →
      Plays g S calls c L played d M → Called g S call d M x.answer e K → x.counts ≡ K.counts →
      Plays g S (calls ++ (call ∷ [])) c L (played ++ (x ∷ [])) e K
  plays_more S [] c L [] d M call x e K p k n =
      (e, K, subst (λ (v : C). Called g S call v L x.answer e K) p.0 (subst (λ (l : Ledger). Called g S call d l x.answer e K) p.1 k), n, (refl, refl))
  plays_more S [] c L (y ∷ played) d M call x e K p k n = absurd p
  plays_more S (call' ∷ calls) c L [] d M call x e K p k n = absurd p
  plays_more S (call' ∷ calls) c L (y ∷ played) d M call x e K p k n =
      (p.0, p.1, p.2, p.3, plays_more S calls p.0 p.1 played d M call x e K p.4 k n)

  -- the accesses of the run, and that of the call
  accesses_more : (S : Setting) (calls : List Call) (c : C) (L : Ledger) (played : List Played) (d : C) (M : Ledger) (call : Call) (x : Played) →
      Plays g S calls c L played d M → accesses_of S L (calls ++ (call ∷ [])) (played ++ (x ∷ [])) ≡ accesses_of S L calls played ++ blocks_in (accessed S M call)
  accesses_more S [] c L [] d M call x p = append-nil (blocks_in (accessed S L call)) ∙ ap (λ l. blocks_in (accessed S l call)) (sym p.1)
  accesses_more S [] c L (y ∷ played) d M call x p = absurd p
  accesses_more S (call' ∷ calls) c L [] d M call x p = absurd p
  accesses_more S (call' ∷ calls) c L (y ∷ played) d M call x p =
      let K = p.1 in
      let now : after S L call' (said_hit y.answer) ≡ K = sym p.2.counts in
      ap (λ l. blocks_in (accessed S L call') ++ accesses_of S l (calls ++ (call ∷ [])) (played ++ (x ∷ []))) now
      ∙ ap (λ bs. blocks_in (accessed S L call') ++ bs) (accesses_more S calls p.0 K played d M call x p.4)
      ∙ ap (λ l. blocks_in (accessed S L call') ++ (accesses_of S l calls played ++ blocks_in (accessed S M call))) (sym now)
      ∙ sym (append_assoc (blocks_in (accessed S L call')) (accesses_of S (after S L call' (said_hit y.answer)) calls played) (blocks_in (accessed S M call)))

  pub same_sets : (o : Option ℕ) (c d : C) → Accesses g o c d → g.sets d ≡ g.sets c
  same_sets None c d a = ap g.sets a
  same_sets (Some b) c d a = a.0

  pub same_life : (o : Option ℕ) (c d : C) → Accesses g o c d → g.life d ≡ g.life c
  same_life None c d a = ap g.life a
  same_life (Some b) c d a = a.1

  row_more : (s w : ℕ) (o : Option ℕ) (c d : C) (row : List (List ℕ)) → g.sets c ≡ s → g.life c ≡ w → Accesses g o c d → g.vouches c row → g.vouches d (row_run s w (blocks_in o) row)
  row_more s w None c d row es el a v = subst (λ (x : C). g.vouches x row) (sym a) v
  row_more s w (Some b) c d row es el a v = subst (λ (k : ℕ). g.vouches d (row_step k w b row)) es (subst (λ (k : ℕ). g.vouches d (row_step (g.sets c) k b row)) el (a.3 row v))

  -- rows that were vouched for move with the call
  pub rows_more : (S : Setting) (calls : List Call) (c : C) (L : Ledger) (played : List Played) (d : C) (M : Ledger) (call : Call) (x : Played) (e : C) (s w : ℕ) → g.sets d ≡ s → g.life d ≡ w →
      Plays g S calls c L played d M → Accesses g (accessed S M call) d e → (row : List (List ℕ)) → g.vouches d (row_run s w (accesses_of S L calls played) row) →
      g.vouches e (row_run s w (accesses_of S L (calls ++ (call ∷ [])) (played ++ (x ∷ []))) row)
  rows_more S calls c L played d M call x e s w es el p a row v =
      subst (g.vouches e)
      (sym (ap (λ bs. row_run s w bs row) (accesses_more S calls c L played d M call x p) ∙ run_append s w (accesses_of S L calls played) (blocks_in (accessed S M call)) row))
      (row_more s w (accessed S M call) d e (row_run s w (accesses_of S L calls played) row) es el a v)
