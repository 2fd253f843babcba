use Rattle.sm_store.proofs.Masks.{after_at_least, after_unequal}
use Rattle.sm_store.proofs.words.mask_after.Goals as goal

pub returns-in-AtLeast : goal.returns-in-AtLeast
returns-in-AtLeast c = rw c.in-AtLeast.is (λ b i before l. after_at_least b i before l)

pub returns-in-Unequal : goal.returns-in-Unequal
returns-in-Unequal c = rw c.in-Unequal.is (λ b i before l. after_unequal b i before l)
