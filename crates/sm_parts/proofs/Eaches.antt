-- What stands in a list, one after another: what is left to try, and what is left to make.
use Rattle.std.proofs.Common.{◌≡◌, ◌∙◌, ap, sym, refl, ℕ, List, [], ◌∷◌, ◌++◌, append_assoc, append-nil}
use Rattle.std.specs.List.{flat_map}
use Rattle.sm_meaning.specs.declared.refusal.ExpandRefusal.{ExpandRefusal}
use Rattle.sm_meaning.specs.Trials.{Trial, reached, IsStopped, each_tried}
use Rattle.sm_meaning.proofs.Steps.{stops, goes_on, stopped_same}

-- What is left to try comes to what all comes to, and so does what is left to make, behind what is made.
pub record Left {X Y : Type 0} (f : X → Trial) (g : X → List Y) (all : List X) (start : ℕ) (old : List Y) (rest : List X) (now : ℕ) (made : List Y) : Type 0 where
  pub tried : each_tried f rest now ≡ each_tried f all start
  pub makes : made ++ flat_map g rest ≡ old ++ flat_map g all

pub left_first : {X Y : Type 0} (f : X → Trial) (g : X → List Y) (all : List X) (start : ℕ) (old : List Y) → Left f g all start old all start old
left_first f g all start old = record { tried = refl; makes = refl }

pub left_more : {X Y : Type 0} (f : X → Trial) (g : X → List Y) (all : List X) (start : ℕ) (old : List Y) (x : X) (rest : List X) (now after : ℕ) (made new : List Y)
    → Left f g all start old (x ∷ rest) now made → f x now ≡ reached after → new ≡ made ++ g x → Left f g all start old rest after new
left_more f g all start old x rest now after made new h goes is = record {
  tried = sym (goes_on (f x) (each_tried f rest) now after goes) ∙ h.tried;
  makes = ap (λ ys. ys ++ flat_map g rest) is ∙ append_assoc made (g x) (flat_map g rest) ∙ h.makes;
}

pub left_stops : {X Y : Type 0} (e : ExpandRefusal) (f : X → Trial) (g : X → List Y) (all : List X) (start : ℕ) (old : List Y) (x : X) (rest : List X) (now : ℕ) (made : List Y)
    → Left f g all start old (x ∷ rest) now made → IsStopped e (f x now) → IsStopped e (each_tried f all start)
left_stops e f g all start old x rest now made h stop = stopped_same e _ _ h.tried (stops e (f x) (each_tried f rest) now stop)

pub left_ends : {X Y : Type 0} (f : X → Trial) (g : X → List Y) (all : List X) (start : ℕ) (old : List Y) (now : ℕ) (made : List Y)
    → Left f g all start old [] now made → (each_tried f all start ≡ reached now) × (made ≡ old ++ flat_map g all)
left_ends f g all start old now made h = (sym h.tried, sym (append-nil made) ∙ h.makes)
