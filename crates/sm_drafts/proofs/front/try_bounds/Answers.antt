use Rattle.std.proofs.Common.{subst, List, map, ◌++◌, ◌∷◌, []}
use Rattle.sm_kinds.specs.declared.literal.Literal.{Literal}
use Rattle.sm_forms.specs.Meanings.{constant_of}
use Rattle.sm_meaning.specs.Limits.{bounds_of}
use Rattle.sm_drafts.specs.Drafts.{IsDraftOf, Passes, bounds_tried}
use Rattle.sm_drafts.proofs.DemandSorts.{of_row, of_formula, of_when, of_kind}
use Rattle.sm_drafts.proofs.front.try_bounds.Goals as goal

pub returns-in-Row-clause-tried : goal.returns-in-Row-clause-tried
returns-in-Row-clause-tried c = λ n d h.
    of_row n d c.in-Row.cmp c.in-Row.form (λ x. Passes (bounds_tried (bounds_of x)) c.try_constant.result) (subst (IsDraftOf n d) c.in-Row.is h) (λ g k. c.try_constant.ensures.tried n g k)

pub returns-in-Formula-clause-tried : goal.returns-in-Formula-clause-tried
returns-in-Formula-clause-tried c = λ n d h.
    of_formula n d c.in-Formula.formula (λ x. Passes (bounds_tried (bounds_of x)) c.try_formula.result) (subst (IsDraftOf n d) c.in-Formula.is h) c.try_formula.ensures.tried

pub returns-in-RowWhen-clause-tried : goal.returns-in-RowWhen-clause-tried
returns-in-RowWhen-clause-tried c = λ n d h.
    of_when n d c.in-RowWhen.literals c.in-RowWhen.cmp c.in-RowWhen.form (λ x. Passes (bounds_tried (bounds_of x)) c.try_row_when.result) (subst (IsDraftOf n d) c.in-RowWhen.is h)
    (λ g k. subst (λ (ls : List Literal). Passes (bounds_tried (map (λ (l : Literal). l.bound) ls ++ constant_of g ∷ [])) c.try_row_when.result) c.as_slice.ensures (c.try_row_when.ensures.tried n g k))

pub returns-in-Kind-clause-tried : goal.returns-in-Kind-clause-tried
returns-in-Kind-clause-tried c = λ n d h.
    of_kind n d c.in-Kind.form (λ x. Passes (bounds_tried (bounds_of x)) c.try_kind_bounds.result) (subst (IsDraftOf n d) c.in-Kind.is h) c.try_kind_bounds.ensures
