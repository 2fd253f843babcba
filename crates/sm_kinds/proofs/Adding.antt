-- One pick more of those that add up to a total, and the entry of an element.
use Rattle.std.proofs.Common.{◌≡◌, ℕ, ◌+◌, ◌<◌, ◌↔◌, List, ◌∷◌, length, get_or, drop, suc, arith, subst, sym}
use Rattle.std.proofs.Math.Seq.{drop-cons}
use Rattle.std.specs.Prelude.{ℤ, pos, ◌-ℤ◌, ◌*ℤ◌}
use Rattle.sm_kinds.specs.Choices.{AddUpTo, member}
use Rattle.sm_kinds.specs.Element.{SatElement, entry_at, entry_value}
use Rattle.sm_kinds.specs.Points.{Point, HasValue}
use Rattle.sm_kinds.specs.declared.element.Entry.{Entry}

-- the variable has no other whole value from 0 on
abbrev pub IsOnly : Point → ℕ → ℕ → Type 0
IsOnly a i j = (k : ℕ) → HasValue a i (pos k) → k ≡ j

module _ (a : Point) where
  -- what is left for the others
  pub takes : (p : ℕ × List ℤ) (total rest : ℤ) (j : ℕ) → j < length p.1 → HasValue a p.0 (pos j) → IsOnly a p.0 j → rest ≡ total -ℤ (member p.1 j *ℤ a.denominator) → (ps : List (ℕ × List ℤ)) → AddUpTo a ps rest ↔ AddUpTo a (p ∷ ps) total
  takes p total rest j lt h only is ps = (
    (λ k. (j, lt, h, subst (λ r. AddUpTo a ps r) is k)),
    (λ k. subst (λ r. AddUpTo a ps r) (sym is) (subst (λ n. AddUpTo a ps (total -ℤ (member p.1 n *ℤ a.denominator))) (only k.0 k.2) k.3)),
  )

  -- the pick at i stands before those after it
  pub at_pick : (ps : List (ℕ × List ℤ)) (i : ℕ) (d : ℕ × List ℤ) (total : ℤ) → i < length ps → AddUpTo a (drop i ps) total ↔ AddUpTo a (get_or ps i d ∷ drop (i + 1) ps) total
  at_pick ps i d total lt =
      let next : suc i ≡ i + 1 = omega arith in
      let same : drop i ps ≡ get_or ps i d ∷ drop (i + 1) ps = subst (λ n. drop i ps ≡ get_or ps i d ∷ drop n ps) next (drop-cons ps i d lt) in
      ((λ k. subst (λ xs. AddUpTo a xs total) same k), (λ k. subst (λ xs. AddUpTo a xs total) (sym same) k))

  -- the same, where the pick, its table and what is left are known by other names
  pub step_over : (ps : List (ℕ × List ℤ)) (i : ℕ) (p : ℕ × List ℤ) (table : List ℤ) (rest left again : ℤ) → i < length ps → p ≡ get_or ps i p → table ≡ p.1 → again ≡ left → ((qs : List (ℕ × List ℤ)) → AddUpTo a qs left ↔ AddUpTo a ((p.0, table) ∷ qs) rest) → AddUpTo a (drop (i + 1) ps) again ↔ AddUpTo a (drop i ps) rest
  step_over ps i p table rest left again lt is listed same over =
      let here = at_pick ps i p rest lt in
      let others = drop (i + 1) ps in (
        (λ k.
            let one = (over others).0 (subst (λ x. AddUpTo a others x) same k) in
            let two = subst (λ t. AddUpTo a ((p.0, t) ∷ others) rest) listed one in
            here.1 (subst (λ q. AddUpTo a (q ∷ others) rest) is two)),
        (λ k.
            let two = subst (λ q. AddUpTo a (q ∷ others) rest) (sym is) (here.0 k) in
            let one = subst (λ t. AddUpTo a ((p.0, t) ∷ others) rest) (sym listed) two in
            subst (λ x. AddUpTo a others x) (sym same) ((over others).1 one)),
      )

  pub none_over : (ps : List (ℕ × List ℤ)) (i : ℕ) (p : ℕ × List ℤ) (table : List ℤ) (rest : ℤ) → i < length ps → p ≡ get_or ps i p → table ≡ p.1 → AddUpTo a (drop i ps) rest → (j : ℕ) × (j < length table) × HasValue a p.0 (pos j)
  none_over ps i p table rest lt is listed k =
      let two = subst (λ q. AddUpTo a (q ∷ drop (i + 1) ps) rest) (sym is) ((at_pick ps i p rest lt).0 k) in
      (two.0, subst (λ t. two.0 < length t) (sym listed) two.1, two.2)

  pub element_at : (x : ℕ) (entries : List Entry) (z j : ℕ) → j < length entries → HasValue a x (pos j) → IsOnly a x j → SatElement x entries z a ↔ (a.numerator z ≡ entry_value a (entry_at entries j))
  element_at x entries z j lt h only = ((λ s. subst (λ n. a.numerator z ≡ entry_value a (entry_at entries n)) (only s.0 s.2) s.3), (λ e. (j, lt, h, e)))
