-- Parts that are tried one after another: where they are refused, and where they go on.
use Rattle.std.proofs.Common.{◌≡◌, ◌∙◌, ap, sym, ℕ}
use Rattle.sm_meaning.specs.declared.refusal.ExpandRefusal.{ExpandRefusal}
use Rattle.sm_meaning.specs.declared.refusal.ExpandRefusal.TheVariants as refusal
use Rattle.sm_meaning.specs.Trials.{Trial, Outcome, reached, resumed, ◌▸◌, IsStopped}

-- what is refused in the first part is refused in both
pub stops : (e : ExpandRefusal) (part next : Trial) (count : ℕ) → IsStopped e (part count) → IsStopped e ((part ▸ next) count)
stops refusal.OutOfMemory part next count h = tt
stops (refusal.Meaning line column what) part next count h = ap (λ o. resumed o next) h
stops (refusal.Limit what found bound) part next count h = ap (λ o. resumed o next) h

-- the first part goes on to the second
pub goes_on : (part next : Trial) (count after : ℕ) → part count ≡ reached after → (part ▸ next) count ≡ next after
goes_on part next count after h = ap (λ o. resumed o next) h

pub stops_later : (e : ExpandRefusal) (part next : Trial) (count after : ℕ) → part count ≡ reached after → IsStopped e (next after) → IsStopped e ((part ▸ next) count)
stops_later refusal.OutOfMemory part next count after h k = tt
stops_later (refusal.Meaning line column what) part next count after h k = ap (λ o. resumed o next) h ∙ k
stops_later (refusal.Limit what found bound) part next count after h k = ap (λ o. resumed o next) h ∙ k

-- one outcome has one refusal
pub stopped_same : (e : ExpandRefusal) (o p : Outcome) → o ≡ p → IsStopped e o → IsStopped e p
stopped_same refusal.OutOfMemory o p same h = tt
stopped_same (refusal.Meaning line column what) o p same h = sym same ∙ h
stopped_same (refusal.Limit what found bound) o p same h = sym same ∙ h
