use Rattle.std.proofs.Common.{subst}
use Rattle.sm_meaning.specs.Limits.{entries_of}
use Rattle.sm_drafts.specs.Drafts.{IsDraftOf, Passes, entries_tried}
use Rattle.sm_drafts.proofs.DemandSorts.{of_kind}
use Rattle.sm_drafts.proofs.front.try_entries.Goals as goal

pub returns-in-Kind : goal.returns-in-Kind
returns-in-Kind c = λ n d h.
    of_kind n d c.in-Kind.form (λ x. Passes (entries_tried (entries_of x)) c.try_kind_entries.result) (subst (IsDraftOf n d) c.in-Kind.is h) c.try_kind_entries.ensures
