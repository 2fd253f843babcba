use Rattle.std.proofs.Common.{◌∙◌, ap, length}
use Rattle.sm_kinds.specs.Limits.{most_terms}
use Rattle.sm_data.specs.declared.refusal.Counted.TheVariants as counted
use Rattle.sm_meaning.specs.Limits.{term_count}
use Rattle.sm_flattening.proofs.Counts.{terms_count}
use Rattle.sm_drafts.proofs.Parts.{same_count}
use Rattle.sm_drafts.proofs.front.try_row_terms.Goals as goal

pub returns : goal.returns
returns c = λ n g h.
    same_count counted.Terms most_terms (length c.terms.result.now) (term_count n g) c.try_count.result (ap (λ ts. length ts) (c.terms.ensures.value n g h) ∙ terms_count n g) c.try_count.ensures
