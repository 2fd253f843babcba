-- Calls one after another.
use Rattle.std.proofs.Common.{◌≡◌, ℕ, List, Option, Result, Ok, Err, refl, ap, arith}
use Rattle.std.specs.Prelude.{OnOk}
use Rattle.sm_flat.specs.Models.{FlatModel}
use Rattle.sm_search.specs.declared.refusal.WorkRefusal.{WorkRefusal}
use Rattle.sm_search.specs.declared.refusal.WorkRefusal.TheVariants.{OutOfMemory}
use Rattle.sm_step.specs.declared.line.Line.{Line}
use Rattle.sm_rules.specs.Laws.{Allowed}
use Rattle.sm_rules.specs.Transitions.{after}
use Rattle.sm_rules.specs.Sound.{IsOf}
use Rattle.sm_search.specs.Fits.{IsFit, IsOwn}
use Rattle.sm_search.specs.Went.{Place}
use Rattle.sm_search.specs.Turns.{Moves}
use Rattle.sm_search.proofs.Fits.{fit_after}
use Rattle.sm_search.proofs.Goings.{went_none, went_more, stopped_none, stopped_more}

-- nothing was put, and nothing had to be
pub stays : {R : Type 0} (m : FlatModel) (v : R) (p : Place) (x : Option (List ℕ)) (a : ℕ) → IsFit m p.state → Moves m (Ok v) p p x x a a
stays m v p x a fit = record { fit = fit; went = went_none m p x; stopped = tt; later = omega arith }

-- nothing was put before memory ran out
pub stays_stopped : {R : Type 0} (m : FlatModel) (r : Result R WorkRefusal) (p : Place) (x : Option (List ℕ)) (a : ℕ) → r ≡ Err OutOfMemory → IsFit m p.state → Moves m r p p x x a a
stays_stopped m r p x a e fit = rw e (record { fit = fit; went = tt; stopped = stopped_none m p x a a OutOfMemory refl; later = omega arith })

-- what follows where a call went on
pub on_more : {R : Type 0} (r : Result R WorkRefusal) (P Q : Type 0) → (P → Q) → OnOk r P → OnOk r Q
on_more (Ok v) P Q f h = f h
on_more (Err e) P Q f h = tt

-- a call after one that went on
pub moves_more : {R Q : Type 0} (m : FlatModel) (v : R) (r : Result Q WorkRefusal) (p q s : Place) (x y z : Option (List ℕ)) (a b c : ℕ) → Moves m (Ok v) p q x y a b → Moves m r q s y z b c → Moves m r p s x z a c
moves_more m v (Ok w) p q s x y z a b c one two = record { fit = two.fit; went = went_more m p q s x y z one.went two.went; stopped = tt; later = let f = one.later in let g = two.later in omega arith }
moves_more m v (Err e) p q s x y z a b c one two = record { fit = two.fit; went = tt; stopped = stopped_more m p q x y z a b c e one.later one.went two.stopped; later = let f = one.later in let g = two.later in omega arith }

-- a search stays fit by a step
pub fit_after_step : (m : FlatModel) (old new : Place) (l : Line) (bytes : ℕ) → IsFit m old.state → IsOwn old.state l → Allowed m old.state l → new ≡ record { state = after m old.state l; bytes = bytes } → IsOf m new.state → IsFit m new.state
fit_after_step m old new l bytes fit own ok e of =
    let state : new.state ≡ after m old.state l = ap (λ (p : Place). p.state) e in
    rw state (fit_after m old.state l fit own ok (rw state at of))

-- the same by a call of another result
pub moved_on : {R Q : Type 0} (m : FlatModel) (v : R) (w : Q) (p q : Place) (x y : Option (List ℕ)) (a b : ℕ) → Moves m (Ok v) p q x y a b → Moves m (Ok w) p q x y a b
moved_on m v w p q x y a b h = record { fit = h.fit; went = h.went; stopped = tt; later = h.later }

pub moved_off : {R Q : Type 0} (m : FlatModel) (e : WorkRefusal) (r : Result Q WorkRefusal) (p q : Place) (x y : Option (List ℕ)) (a b : ℕ) → r ≡ Err e → Moves {R = R} m (Err e) p q x y a b → Moves m r p q x y a b
moved_off m e r p q x y a b is h = rw is (record { fit = h.fit; went = tt; stopped = h.stopped; later = h.later })
