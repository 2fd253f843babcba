-- Pieces of a text, one after another.
use Rattle.std.proofs.Common.{◌≡◌, ◌∙◌, ap, sym, ℕ, suc, ◌+◌, ◌<◌, List, ◌∷◌, ◌++◌, append_assoc, drop, drop-cons, add-one, get_or, length}
use Rattle.sm_kinds.specs.declared.var.Var.{Var}
use Rattle.sm_kinds.specs.Points.{Point}
use Rattle.sm_reports.specs.Briefs.{value_line, value_lines}

-- one more piece behind what was appended
pub and_then : (old mid new a b : List ℕ) → mid ≡ old ++ a → new ≡ mid ++ b → new ≡ old ++ (a ++ b)
and_then old mid new a b h k = k ∙ ap (λ t. t ++ b) h ∙ append_assoc old a b

-- one variable more is told
pub line_more : (p : Point) (vars : List Var) (i : ℕ) (v : Var) (start made new : List ℕ) → i < length vars → v ≡ get_or vars i v
    → made ++ value_lines p i (drop i vars) ≡ start → new ≡ made ++ value_line v.name (p.numerator i) p.denominator → new ++ value_lines p (i + 1) (drop (i + 1) vars) ≡ start
line_more p vars i v start made new lt item before is =
    let split : drop i vars ≡ v ∷ drop (i + 1) vars = rw add-one (drop-cons vars i v lt ∙ ap (λ (y : Var). y ∷ drop (suc i) vars) (sym item)) in
    let line = value_line v.name (p.numerator i) p.denominator in
    let rest = value_lines p (i + 1) (drop (i + 1) vars) in
    ap (λ t. t ++ rest) is ∙ append_assoc made line rest ∙ ap (λ (vs : List Var). made ++ value_lines p i vs) (sym split) ∙ before
