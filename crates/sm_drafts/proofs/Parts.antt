-- Parts of a trial that visit no tuple, one after another.
use Rattle.std.proofs.Common.{◌≡◌, ◌∙◌, ap, sym, refl, ℕ, ◌+◌, ◌<◌, ◌≤◌, List, [], ◌∷◌, ◌++◌, map, length, drop, drop-cons, add-one, get_or, ℤ, Ok, Err}
use Rattle.std.specs.Prelude.{Result}
use Rattle.std.specs.List.{flat_map}
use Rattle.std.proofs.Math.ListN.{drop_of_length-le}
use Rattle.sm_data.specs.declared.refusal.Counted.{Counted}
use Rattle.sm_data.specs.declared.refusal.Counted.TheVariants as counted
use Rattle.sm_kinds.specs.declared.choice.Choice.{Choice}
use Rattle.sm_kinds.specs.Limits.{most_terms}
use Rattle.sm_meaning.specs.Limits.{tables_tried}
use Rattle.sm_meaning.specs.declared.refusal.ExpandRefusal.{ExpandRefusal}
use Rattle.sm_meaning.specs.Refusals.{count_over}
use Rattle.sm_meaning.specs.Trials.{Trial, Outcome, reached, stopped, resumed, nothing_tried, tried, ◌▸◌, each_tried, GoesThrough}
use Rattle.sm_meaning.proofs.Steps.{stops, stops_later, goes_on, stopped_same}
use Rattle.sm_drafts.specs.Drafts.{Passes, choice_terms_tried}

-- ---- one after another

-- the first is refused
pub refused_first : (e : ExpandRefusal) (part next : Trial) → Passes part (Err e) → Passes (part ▸ next) (Err e)
refused_first e part next h = λ count. stops e part next count (h count)

-- the first is gone through
pub passed_first : (part next : Trial) (r : Result (Unit {0}) ExpandRefusal) → Passes part (Ok tt) → Passes next r → Passes (part ▸ next) r
passed_first part next (Ok u) h k = λ count. (goes_on part next count count (h count).0 ∙ (k count).0, tt)
passed_first part next (Err e) h k = λ count. stops_later e part next count count (h count).0 (k count)

-- a part that visits no tuple is gone through, and what then comes of the rest
pub passes_on : {X : Type 0} (part next : Trial) (count : ℕ) (P : X → Type 0) (r : Result X ExpandRefusal) → part count ≡ reached count → GoesThrough next count count P r
    → GoesThrough (part ▸ next) count count P r
passes_on part next count P (Ok x) h k = (goes_on part next count count h ∙ k.0, k.1)
passes_on part next count P (Err e) h k = stops_later e part next count count h k

-- ---- each in its turn

-- those before number i are gone through
abbrev pub PassedUpTo : {X : Type 0} → (X → Trial) → ℕ → List X → Type 0
PassedUpTo f i xs = (count : ℕ) → each_tried f xs count ≡ each_tried f (drop i xs) count

-- what is left begins with number i
pub split_at : {X : Type 0} (xs : List X) (i : ℕ) (d : X) → i < length xs → drop i xs ≡ get_or xs i d ∷ drop (i + 1) xs
split_at xs i d lt = drop-cons xs i d lt ∙ ap (λ (n : ℕ). get_or xs i d ∷ drop n xs) (sym (add-one i))

pub split_item : {X : Type 0} (xs : List X) (i : ℕ) (x : X) → i < length xs → x ≡ get_or xs i x → drop i xs ≡ x ∷ drop (i + 1) xs
split_item xs i x lt is = split_at xs i x lt ∙ ap (λ y. y ∷ drop (i + 1) xs) (sym is)

-- the next one is gone through
pub one_more : {X : Type 0} (f : X → Trial) (xs : List X) (i : ℕ) (x : X) → drop i xs ≡ x ∷ drop (i + 1) xs → PassedUpTo f i xs
    → Passes (f x) (Ok tt) → PassedUpTo f (i + 1) xs
one_more f xs i x split before here =
    λ count. before count ∙ ap (λ ys. each_tried f ys count) split ∙ goes_on (f x) (each_tried f (drop (i + 1) xs)) count count (here count).0

-- the next one is refused
pub refused_at : {X : Type 0} (e : ExpandRefusal) (f : X → Trial) (xs : List X) (i : ℕ) (x : X) → drop i xs ≡ x ∷ drop (i + 1) xs → PassedUpTo f i xs
    → Passes (f x) (Err e) → Passes (each_tried f xs) (Err e)
refused_at e f xs i x split before here = λ count.
    let same : each_tried f (x ∷ drop (i + 1) xs) count ≡ each_tried f xs count = sym (before count ∙ ap (λ ys. each_tried f ys count) split) in
    stopped_same e (each_tried f (x ∷ drop (i + 1) xs) count) (each_tried f xs count) same (stops e (f x) (each_tried f (drop (i + 1) xs)) count (here count))

-- all are gone through
pub all_passed : {X : Type 0} (f : X → Trial) (xs : List X) (i : ℕ) (u : Unit {0}) → length xs ≤ i → PassedUpTo f i xs → Passes (each_tried f xs) (Ok u)
all_passed f xs i u end before = λ count. (before count ∙ ap (λ ys. each_tried f ys count) (drop_of_length-le xs end), tt)

-- ---- lists of lists

-- what is tried is the same
pub passes_same : (a b : Trial) (r : Result (Unit {0}) ExpandRefusal) → ((count : ℕ) → a count ≡ b count) → Passes a r → Passes b r
passes_same a b (Ok u) same h = λ count. (sym (same count) ∙ (h count).0, tt)
passes_same a b (Err e) same h = λ count. stopped_same e (a count) (b count) (same count) (h count)

pub resumed_same : (o : Outcome) (p q : Trial) → ((n : ℕ) → p n ≡ q n) → resumed o p ≡ resumed o q
resumed_same (stopped r) p q h = refl
resumed_same (reached n) p q h = h n

pub grouped : (a b c : Trial) (count : ℕ) → ((a ▸ b) ▸ c) count ≡ (a ▸ b ▸ c) count
grouped a b c count = by_first (a count)
  where
    by_first : (o : Outcome) → resumed (resumed o b) c ≡ resumed o (b ▸ c)
    by_first (stopped r) = refl
    by_first (reached n) = refl

pub each-append : {X : Type 0} (f : X → Trial) (xs ys : List X) (count : ℕ) → (each_tried f xs ▸ each_tried f ys) count ≡ each_tried f (xs ++ ys) count
each-append f [] ys count = refl
each-append f (x ∷ xs) ys count = grouped (f x) (each_tried f xs) (each_tried f ys) count ∙ resumed_same (f x count) (each_tried f xs ▸ each_tried f ys) (each_tried f (xs ++ ys)) (each-append f xs ys)

each-flat_map : {X Y : Type 0} (f : Y → Trial) (h : X → List Y) (xs : List X) (count : ℕ) → each_tried (λ x. each_tried f (h x)) xs count ≡ each_tried f (flat_map h xs) count
each-flat_map f h [] count = refl
each-flat_map f h (x ∷ xs) count =
    resumed_same (each_tried f (h x) count) (each_tried (λ y. each_tried f (h y)) xs) (each_tried f (flat_map h xs)) (each-flat_map f h xs)
    ∙ each-append f (h x) (flat_map h xs) count

each-map : {X Y : Type 0} (f : Y → Trial) (h : X → Y) (xs : List X) (count : ℕ) → each_tried (λ x. f (h x)) xs count ≡ each_tried f (map h xs) count
each-map f h [] count = refl
each-map f h (x ∷ xs) count = resumed_same (f (h x) count) (each_tried (λ y. f (h y)) xs) (each_tried f (map h xs)) (each-map f h xs)

pub passes-append : {X : Type 0} (f : X → Trial) (xs ys : List X) (r : Result (Unit {0}) ExpandRefusal) → Passes (each_tried f xs ▸ each_tried f ys) r → Passes (each_tried f (xs ++ ys)) r
passes-append f xs ys r h = passes_same (each_tried f xs ▸ each_tried f ys) (each_tried f (xs ++ ys)) r (each-append f xs ys) h

pub passes_each : {X : Type 0} (f : X → Trial) (xs ys : List X) (r : Result (Unit {0}) ExpandRefusal) → xs ≡ ys → Passes (each_tried f xs) r → Passes (each_tried f ys) r
passes_each f xs ys r is h = passes_same (each_tried f xs) (each_tried f ys) r (λ count. ap (λ zs. each_tried f zs count) is) h

pub passes-flat_map : {X Y : Type 0} (f : Y → Trial) (h : X → List Y) (xs ys : List X) (r : Result (Unit {0}) ExpandRefusal) → xs ≡ ys
    → Passes (each_tried (λ x. each_tried f (h x)) xs) r → Passes (each_tried f (flat_map h ys)) r
passes-flat_map f h xs ys r is k = passes_same (each_tried (λ x. each_tried f (h x)) xs) (each_tried f (flat_map h ys)) r (λ count. each-flat_map f h xs count ∙ ap (λ zs. each_tried f (flat_map h zs) count) is) k

pub passes-map : {X Y : Type 0} (f : Y → Trial) (h : X → Y) (xs ys : List X) (r : Result (Unit {0}) ExpandRefusal) → xs ≡ ys
    → Passes (each_tried (λ x. f (h x)) xs) r → Passes (each_tried f (map h ys)) r
passes-map f h xs ys r is k = passes_same (each_tried (λ x. f (h x)) xs) (each_tried f (map h ys)) r (λ count. each-map f h xs count ∙ ap (λ zs. each_tried f (map h zs) count) is) k

-- a single one
pub passes_single : (part : Trial) (r : Result (Unit {0}) ExpandRefusal) → Passes part r → Passes (part ▸ nothing_tried) r
passes_single part (Ok u) h = λ count. (goes_on part nothing_tried count count (h count).0, tt)
passes_single part (Err e) h = refused_first e part nothing_tried h

-- ---- counts

-- as many
pub same_count : (what : Counted) (bound m n : ℕ) (r : Result (Unit {0}) ExpandRefusal) → m ≡ n → Passes (tried (count_over what bound m)) r → Passes (tried (count_over what bound n)) r
same_count what bound m n r is h = passes_same (tried (count_over what bound m)) (tried (count_over what bound n)) r (λ count. ap (λ k. tried (count_over what bound k) count) is) h

-- tables that choose, and as many picks
pub choice_passes : (c : Choice) (m : ℕ) (ps : List (ℕ × List ℤ)) (r : Result (Unit {0}) ExpandRefusal) → m ≡ length c.picks → ps ≡ c.picks
    → Passes (tried (count_over counted.Terms most_terms m)) (Ok tt) → Passes (tables_tried ps) r → Passes (choice_terms_tried c) r
choice_passes c m ps r same is few tables =
    passed_first (tried (count_over counted.Terms most_terms (length c.picks))) (tables_tried c.picks) r
    (same_count counted.Terms most_terms m (length c.picks) (Ok tt) same few)
    (passes_same (tables_tried ps) (tables_tried c.picks) r (λ count. ap (λ qs. tables_tried qs count) is) tables)
