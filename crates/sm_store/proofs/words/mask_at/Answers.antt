use Rattle.sm_store.proofs.Masks.{mask_at_most, mask_at_least, mask_equal, mask_unequal}
use Rattle.sm_store.proofs.words.mask_at.Goals as goal

pub returns-in-AtMost : goal.returns-in-AtMost
returns-in-AtMost c = rw c.in-AtMost.is (λ i l. mask_at_most c.args.place i c.requires l)

pub returns-in-AtLeast : goal.returns-in-AtLeast
returns-in-AtLeast c = rw c.in-AtLeast.is (λ i l. mask_at_least c.args.place i c.requires l)

pub returns-in-Equal : goal.returns-in-Equal
returns-in-Equal c = rw c.in-Equal.is (λ i l. mask_equal c.args.place i c.requires l)

pub returns-in-Unequal : goal.returns-in-Unequal
returns-in-Unequal c = rw c.in-Unequal.is (λ i l. mask_unequal c.args.place i c.requires l)
