-- How far a run has come. Assumes nothing.
use Rattle.std.proofs.Common.{◌≡◌, ℕ, List, [], ◌∷◌, ◌++◌, sym, refl, ◌∙◌, subst}
use Rattle.std.specs.List.{AllByRecursion as All}
use Rattle.recency.specs.Rows.{row_run}
use Rattle.cache.specs.declared.Cache.{Ghosts}
use Rattle.ledger.specs.Ledger.{Setting, Ledger, accessed, new_ledger}
use Rattle.ledger.specs.Histories.{LoadsWithin}
use Rattle.ledger.specs.declared.Call.{Call}
use Rattle.bench.specs.Benches.{Called, Explained}
use Rattle.replaying.specs.Replays.{CountsWithin, Plays, Replayed, accesses_of}
use Rattle.replaying.specs.declared.Played.{Played}
use Rattle.replaying.proofs.Playing.{all_more, plays_more, rows_more, same_life, same_sets}

module _ {C : Type 0} (g : Ghosts C) where
  -- some calls from c have led to d and M, and the setting is still S
  pub record Along (S : Setting) (c : C) (calls : List Call) (played : List Played) (d : C) (M : Ledger) (T : Setting) : Type 0 where
    pub setting : T ≡ S
    pub plays : Plays g S calls c (new_ledger S) played d M
    pub rows : (row : List (List ℕ)) → g.vouches c row → g.vouches d (row_run (g.sets c) (g.life c) (accesses_of S (new_ledger S) calls played) row)
    pub sets_stay : g.sets d ≡ g.sets c
    pub life_stays : g.life d ≡ g.life c
    pub explained : Explained g S d M
    pub bounded : LoadsWithin M
    pub always : All (λ (x : Played). CountsWithin x.counts) played

  pub along_none : (S : Setting) (c : C) (M : Ledger) → M ≡ new_ledger S → Explained g S c M → LoadsWithin M → Along S c [] [] c M S
  along_none S c M e x b = record { setting = refl; plays = (refl, e); rows = λ row v. v; sets_stay = refl; life_stays = refl; explained = x; bounded = b; always = tt }

  pub along_more : (S : Setting) (c : C) (calls : List Call) (played : List Played) (d : C) (M : Ledger) (T : Setting) (call : Call) (x : Played) (e : C) (K : Ledger) (U : Setting) →
      Along S c calls played d M T → Called g T call d M x.answer e K → x.counts ≡ K.counts → U ≡ T →
      (Explained g T d M → Explained g U e K) → (Explained g U e K → LoadsWithin K) →
      Along S c (calls ++ (call ∷ [])) (played ++ (x ∷ [])) e K U
  along_more S c calls played d M T call x e K U a k n u explains bounds =
      let k' : Called g S call d M x.answer e K = subst (λ (V : Setting). Called g V call d M x.answer e K) a.setting k in
      let made : Explained g U e K = explains (subst (λ (V : Setting). Explained g V d M) (sym a.setting) a.explained) in
      let within : LoadsWithin K = bounds made in
      record {
        setting = u ∙ a.setting;
        plays = plays_more g S calls c (new_ledger S) played d M call x e K a.plays k' n;
        rows = λ row v. rows_more g S calls c (new_ledger S) played d M call x e (g.sets c) (g.life c) a.sets_stay a.life_stays a.plays k'.accesses row (a.rows row v);
        sets_stay = same_sets g (accessed S M call) d e k'.accesses ∙ a.sets_stay;
        life_stays = same_life g (accessed S M call) d e k'.accesses ∙ a.life_stays;
        explained = subst (λ (V : Setting). Explained g V e K) (u ∙ a.setting) made;
        bounded = within;
        always = all_more (λ (y : Played). CountsWithin y.counts) played x a.always (subst CountsWithin (sym n) within);
      }

  pub along_all : (S : Setting) (c : C) (calls : List Call) (played : List Played) (d : C) (M : Ledger) (T : Setting) → Along S c calls played d M T → Replayed g S calls c played d M
  along_all S c calls played d M T a = record { follows = a.plays; rows = a.rows; bounded = a.bounded; always = a.always }
