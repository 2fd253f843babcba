-- What a whole search comes to.
use Rattle.std.proofs.Common.{◌≡◌, ℕ, ◌≤◌, List, Option, Some, sym, ◌∙◌, subst, get_or}
use Rattle.std.proofs.lemmas.List.{get_or_default}
use Rattle.sm_kinds.specs.declared.var.Var.{Var}
use Rattle.std.specs.Prelude.{IfSome}
use Rattle.sm_flat.specs.Models.{FlatModel}
use Rattle.sm_step.specs.Verdicts.{IsTrueOf}
use Rattle.sm_step.specs.declared.verdict.Verdict.{Verdict}
use Rattle.sm_search.specs.declared.solved.Solved.{Solved}
use Rattle.sm_search.specs.declared.refusal.WorkRefusal.{WorkRefusal}
use Rattle.sm_search.specs.Fits.{AreDiscrete, IsFit}
use Rattle.sm_search.specs.Refusals.{HasReal}
use Rattle.sm_search.specs.Turns.{IsDecided, HasEnded, HasSolved}
use Rattle.sm_search.specs.Went.{Place, begin, Went, Stopped}
use Rattle.sm_search.proofs.Goings.{went_more, stopped_more}

-- the first line, and then the others up to the verdict
pub solved_by : (m : FlatModel) (p q r : Place) (x y z : Option (List ℕ)) (s : Solved) → p ≡ begin m → Went m p q x y → Went m q r y z → IsFit m r.state → HasEnded r.state → r.state.verdict ≡ Some s.verdict → r.state.best ≡ s.best → HasSolved m x z s
solved_by m p q r x y z s is one two fit ended stands best =
    let P : Place → Type 0 = λ p. Went m p r x z in
    let same : ended.verdict ≡ s.verdict = let e = sym ended.stands ∙ stands in cc in
    let says : IfSome (Some s.verdict) (IsTrueOf m s.best) = rw (stands, best) at fit.says in
    record {
      flat = fit.of.flat;
      place = r;
      went = subst P is (went_more m p q r x y z one two);
      stands = stands;
      best = best;
      decided = let D : Verdict → Type 0 = λ v. IsDecided v in subst D same ended.decided;
      holds = says;
    }

-- the first line stopped
pub stopped_first : (m : FlatModel) (p : Place) (x y : Option (List ℕ)) (a b : ℕ) (r : WorkRefusal) → p ≡ begin m → Stopped m p x y a b r → Stopped m (begin m) x y a b r
stopped_first m p x y a b r is stop = let P : Place → Type 0 = λ s. Stopped m s x y a b r in subst P is stop

-- a later line did
pub stopped_later : (m : FlatModel) (p q : Place) (x y z : Option (List ℕ)) (a b c : ℕ) (r : WorkRefusal) → p ≡ begin m → a ≤ b → Went m p q x y → Stopped m q y z b c r → Stopped m (begin m) x z a c r
stopped_later m p q x y z a b c r is le one two = stopped_first m p x z a c r is (stopped_more m p q x y z a b c r le one two)

-- where no variable is real, each is of another kind
pub discrete_of : (vars : List Var) → (HasReal vars → ⊥) → AreDiscrete vars
discrete_of vars none i d lt e = none (i, get_or vars i d, lt, get_or_default vars i (get_or vars i d) d lt, e)
