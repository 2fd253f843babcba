-- A text at the front of another.
use Rattle.std.proofs.Common.{◌≡◌, ℕ, List, [], ◌∷◌, ◌++◌, length, take, drop, Bool, true, false, Option, Some, None, refl, sym, ◌∙◌, ap, arith, eqb-true}
use Rattle.std.specs.Prelude.{◌==◌, if◌then◌else◌}
use lib.Pointwise.{pointwise}
use lib.Dec.{eqb}
use Rattle.std.proofs.Math.Seq.{take-append_seam}
use Rattle.std.proofs.lemmas.List.{take-append-drop}
use Rattle.std.proofs.lemmas.Slice.Eq.{bytes_eq-Decides}
use Rattle.std.proofs.lemmas.Bool.Decides.{nat_tests}
use Rattle.sm_step.specs.Reading.{rest_behind}

pub rest_is : (p s r : List ℕ) → rest_behind p s ≡ Some r → s ≡ p ++ r
rest_is [] s r h = cc
rest_is (c ∷ cs) [] r h = absurd (cc)
rest_is (c ∷ cs) (b ∷ bs) r h = pick (c == b) (eqb-true c b) (rest_is cs bs r) h
  where
    pick : (t : Bool) → (t ≡ true → c ≡ b) → (rest_behind cs bs ≡ Some r → bs ≡ cs ++ r) → (if t then rest_behind cs bs else None) ≡ Some r → b ∷ bs ≡ c ∷ (cs ++ r)
    pick true same more k = let e = same refl in let f = more k in cc
    pick false same more k = absurd (cc)

pub front_taken : (p r : List ℕ) → rest_behind p (p ++ r) ≡ Some r
front_taken [] r = refl
front_taken (c ∷ cs) r = let same : (c == c) ≡ true = grind (arith, nat_tests) in rw same (front_taken cs r)

pub rest_taken : (p s : List ℕ) → pointwise eqb (take (length p) s) p ≡ true → rest_behind p s ≡ Some (drop (length p) s)
rest_taken p s h = let e = (bytes_eq-Decides (take (length p) s) p).0 h in
    let front : s ≡ p ++ drop (length p) s = sym (take-append-drop (length p) s) ∙ ap (λ (t : List ℕ). t ++ drop (length p) s) e in
    ap (rest_behind p) front ∙ front_taken p (drop (length p) s)

pub rest_absent : (p s : List ℕ) → pointwise eqb (take (length p) s) p ≡ false → rest_behind p s ≡ None
rest_absent p s h = pick (rest_behind p s) (rest_is p s)
  where
    none : (r : List ℕ) → s ≡ p ++ r → ⊥
    none r e = let same = (bytes_eq-Decides (take (length p) s) p).1 (ap (take (length p)) e ∙ take-append_seam p r) in absurd (cc)

    pick : (o : Option (List ℕ)) → ((r : List ℕ) → o ≡ Some r → s ≡ p ++ r) → o ≡ None
    pick None is = refl
    pick (Some r) is = absurd (none r (is r refl))
