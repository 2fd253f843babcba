use Rattle.sm_store.proofs.Masks.{before_at_most, before_unequal}
use Rattle.sm_store.proofs.words.mask_before.Goals as goal

pub returns-in-AtMost : goal.returns-in-AtMost
returns-in-AtMost c = rw c.in-AtMost.is (λ b i past l. before_at_most b i past l)

pub returns-in-Unequal : goal.returns-in-Unequal
returns-in-Unequal c = rw c.in-Unequal.is (λ b i past l. before_unequal b i past l)
