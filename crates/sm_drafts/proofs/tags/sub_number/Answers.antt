use Rattle.std.proofs.Common.{◌≡◌, ap, Some}
use Rattle.sm_drafts.proofs.tags.sub_number.Goals as goal

pub returns-in_ok-tag_number-in-Some : goal.returns-in_ok-tag_number-in-Some
returns-in_ok-tag_number-in-Some c = rw c.in-Some.is (λ count. ((c.in_ok-tag_number-in-Some.ensures count).0, ap Some (c.in_ok-tag_number-in-Some.ensures count).1))
