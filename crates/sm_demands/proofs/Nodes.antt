-- Nodes of a text, each in its turn: what is tried of them, and what they make.
use Rattle.std.proofs.Common.{◌≡◌, ◌∙◌, ap, sym, refl, ℕ, List, [], ◌∷◌, ◌++◌, map}
use Rattle.std.specs.List.{flat_map}
use Rattle.sm_meaning.specs.declared.refusal.ExpandRefusal.{ExpandRefusal}
use Rattle.sm_meaning.specs.Trials.{Trial, ◌▸◌, reached, IsStopped, each_tried}
use Rattle.sm_expressions.proofs.Trying.{goes_on, stops_later, stopped_same, in_turn}

-- ---- what is tried of nodes is what is tried of their plain data

pub tried_of : {N X : Type 0} (f : X → Trial) (view : N → X) (ns : List N) → each_tried (λ n. f (view n)) ns ≡ each_tried f (map view ns)
tried_of f view [] = refl
tried_of f view (n ∷ ns) = ap (λ (t : Trial). f (view n) ▸ t) (tried_of f view ns)

pub each_goes : {N X : Type 0} (f : X → Trial) (view : N → X) (ns : List N) (count after : ℕ) → each_tried (λ n. f (view n)) ns count ≡ reached after → each_tried f (map view ns) count ≡ reached after
each_goes f view ns count after h = ap (λ (t : Trial). t count) (sym (tried_of f view ns)) ∙ h

pub each_stops : {N X : Type 0} (e : ExpandRefusal) (f : X → Trial) (view : N → X) (ns : List N) (count : ℕ) → IsStopped e (each_tried (λ n. f (view n)) ns count) → IsStopped e (each_tried f (map view ns) count)
each_stops e f view ns count h = stopped_same e _ _ (ap (λ (t : Trial). t count) (tried_of f view ns)) h

-- behind a first part
pub behind_goes : {N X : Type 0} (first : Trial) (f : X → Trial) (view : N → X) (ns : List N) (count mid after : ℕ) → first count ≡ reached mid → each_tried (λ n. f (view n)) ns mid ≡ reached after
    → (first ▸ each_tried f (map view ns)) count ≡ reached after
behind_goes first f view ns count mid after h k = goes_on first (each_tried f (map view ns)) count mid h ∙ each_goes f view ns mid after k

pub behind_stops : {N X : Type 0} (e : ExpandRefusal) (first : Trial) (f : X → Trial) (view : N → X) (ns : List N) (count mid : ℕ) → first count ≡ reached mid → IsStopped e (each_tried (λ n. f (view n)) ns mid)
    → IsStopped e ((first ▸ each_tried f (map view ns)) count)
behind_stops e first f view ns count mid h k = stops_later e first (each_tried f (map view ns)) count mid h (each_stops e f view ns mid k)

-- behind a first part and two more
pub fourth_goes : (first second third last : Trial) (count mid late after : ℕ) → first count ≡ reached mid → (second ▸ third) mid ≡ reached late → last late ≡ reached after → (first ▸ second ▸ third ▸ last) count ≡ reached after
fourth_goes first second third last count mid late after h k l =
    goes_on first (second ▸ third ▸ last) count mid h ∙ sym (in_turn second third last mid) ∙ goes_on (second ▸ third) last mid late k ∙ l

pub fourth_stops : (e : ExpandRefusal) (first second third last : Trial) (count mid late : ℕ) → first count ≡ reached mid → (second ▸ third) mid ≡ reached late → IsStopped e (last late) → IsStopped e ((first ▸ second ▸ third ▸ last) count)
fourth_stops e first second third last count mid late h k l =
    stops_later e first (second ▸ third ▸ last) count mid h (stopped_same e _ _ (in_turn second third last mid) (stops_later e (second ▸ third) last mid late k l))

-- ---- nodes that make one thing at each tuple

-- one for each
pub each_once : {X Y : Type 0} (g : X → Y) (xs : List X) → flat_map (λ x. g x ∷ []) xs ≡ map g xs
each_once g [] = refl
each_once g (x ∷ xs) = ap (λ ys. g x ∷ ys) (each_once g xs)

pub made_of : {N X C Y : Type 0} (once : N → C → Y) (cases : N → List C) (g : X → List Y) (view : N → X) (ns : List N) → ((n : N) → g (view n) ≡ map (once n) (cases n))
    → flat_map (λ n. flat_map (λ c. once n c ∷ []) (cases n)) ns ≡ flat_map g (map view ns)
made_of once cases g view [] is = refl
made_of once cases g view (n ∷ ns) is =
    ap (λ ys. ys ++ flat_map (λ m. flat_map (λ c. once m c ∷ []) (cases m)) ns) (each_once (once n) (cases n) ∙ sym (is n))
    ∙ ap (λ ys. g (view n) ++ ys) (made_of once cases g view ns is)

-- pushed behind nothing
pub pushed : {N X C Y : Type 0} (once : N → C → Y) (cases : N → List C) (g : X → List Y) (view : N → X) (ns : List N) → ((n : N) → g (view n) ≡ map (once n) (cases n))
    → (old new : List Y) → old ≡ [] → new ≡ old ++ flat_map (λ n. flat_map (λ c. once n c ∷ []) (cases n)) ns → new ≡ flat_map g (map view ns)
pushed once cases g view ns is old new empty h = h ∙ ap (λ ys. ys ++ flat_map (λ n. flat_map (λ c. once n c ∷ []) (cases n)) ns) empty ∙ made_of once cases g view ns is
