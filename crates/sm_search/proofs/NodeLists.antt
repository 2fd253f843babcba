-- Lists of nodes of which at most one is open.
use Rattle.std.proofs.Common.{◌≡◌, ◌≢◌, ℕ, ◌<◌, Bool, true, false, cond, List, [], ◌∷◌, get_or, refl, sym, ◌∙◌, arith}
use Rattle.std.specs.Prelude.{All, AllPairs, ◌==◌}
use Rattle.std.proofs.lemmas.List.Elements.{All-head, All-tail, All-cons, All-nil}
use Rattle.std.proofs.lemmas.Bool.Decides.{nat_tests}
use Rattle.sm_kinds.specs.declared.literal.Literal.{Literal}
use Rattle.sm_rules.specs.declared.node.Status.{Status}
use Rattle.sm_rules.specs.declared.node.Status.TheVariants.{Open, Half, Split}
use Rattle.sm_rules.specs.Nodes.{NodeView, is_split}
use Rattle.sm_rules.specs.Trees.{node_at, set_node, without_node, pruned}
use Rattle.sm_rules.proofs.Places.{rising_head, rising_tail}

eq_true : (x y : ℕ) → (x == y) ≡ true → x ≡ y
eq_true x y e = grind (arith, nat_tests)

eq_false : (x y : ℕ) → (x == y) ≡ false → x ≢ y
eq_false x y e = grind (arith, nat_tests)

-- ---- the one open node

abbrev pub NotOpen : NodeView → Type 0
NotOpen n = n.status ≢ Open

later_not_open : (f : ℕ) (n : NodeView) (ns : List NodeView) → n.number ≡ f → All (λ (x : NodeView). n.number < x.number) ns → All (λ (x : NodeView). x.status ≡ Open → x.number ≡ f) ns → All NotOpen ns
later_not_open f n ns e above only i d lt is_open =
    let a = above i d lt in
    let o = only i d lt is_open in
    absurd (omega arith)

-- where only the node of a number is open, none is once another that isn't stands in its place
pub none_open_set : (ns : List NodeView) (f : ℕ) (new : NodeView) → NotOpen new → AllPairs (λ (x y : NodeView). x.number < y.number) ns → All (λ (x : NodeView). x.status ≡ Open → x.number ≡ f) ns → All NotOpen (set_node ns f new)
none_open_set [] f new not_open rising only = All-nil NotOpen
none_open_set (n ∷ ns) f new not_open rising only =
    by_test (n.number == f) (eq_true n.number f) (eq_false n.number f) (none_open_set ns f new not_open (rising_tail n ns rising) (All-tail (λ (x : NodeView). x.status ≡ Open → x.number ≡ f) n ns only))
  where
    by_test : (b : Bool) → (b ≡ true → n.number ≡ f) → (b ≡ false → n.number ≢ f) → All NotOpen (set_node ns f new) → All NotOpen (cond b (new ∷ ns) (n ∷ set_node ns f new))
    by_test true same other rest = All-cons NotOpen new ns not_open (later_not_open f n ns (same refl) (rising_head n ns rising) (All-tail (λ (x : NodeView). x.status ≡ Open → x.number ≡ f) n ns only))
    by_test false same other rest = All-cons NotOpen n (set_node ns f new) (λ e. other refl (All-head (λ (x : NodeView). x.status ≡ Open → x.number ≡ f) n ns only e)) rest

-- or once it is gone
pub none_open_without : (ns : List NodeView) (f : ℕ) → AllPairs (λ (x y : NodeView). x.number < y.number) ns → All (λ (x : NodeView). x.status ≡ Open → x.number ≡ f) ns → All NotOpen (without_node ns f)
none_open_without [] f rising only = All-nil NotOpen
none_open_without (n ∷ ns) f rising only =
    by_test (n.number == f) (eq_true n.number f) (eq_false n.number f) (none_open_without ns f (rising_tail n ns rising) (All-tail (λ (x : NodeView). x.status ≡ Open → x.number ≡ f) n ns only))
  where
    by_test : (b : Bool) → (b ≡ true → n.number ≡ f) → (b ≡ false → n.number ≢ f) → All NotOpen (without_node ns f) → All NotOpen (cond b ns (n ∷ without_node ns f))
    by_test true same other rest = later_not_open f n ns (same refl) (rising_head n ns rising) (All-tail (λ (x : NodeView). x.status ≡ Open → x.number ≡ f) n ns only)
    by_test false same other rest = All-cons NotOpen n (without_node ns f) (λ e. other refl (All-head (λ (x : NodeView). x.status ≡ Open → x.number ≡ f) n ns only e)) rest

-- where the node of that number isn't open, and only it might be, none is
pub none_open : (ns : List NodeView) (f : ℕ) → (node_at ns f).status ≢ Open → AllPairs (λ (x y : NodeView). x.number < y.number) ns → All (λ (x : NodeView). x.status ≡ Open → x.number ≡ f) ns → All NotOpen ns
none_open [] f not_open rising only = All-nil NotOpen
none_open (n ∷ ns) f not_open rising only =
    by_test (n.number == f) (eq_true n.number f) (eq_false n.number f) not_open (λ not_open. none_open ns f not_open (rising_tail n ns rising) (All-tail (λ (x : NodeView). x.status ≡ Open → x.number ≡ f) n ns only))
  where
    by_test : (b : Bool) → (b ≡ true → n.number ≡ f) → (b ≡ false → n.number ≢ f) → (cond b n (node_at ns f)).status ≢ Open → ((node_at ns f).status ≢ Open → All NotOpen ns) → All NotOpen (n ∷ ns)
    by_test true same other not_open rest = All-cons NotOpen n ns not_open (later_not_open f n ns (same refl) (rising_head n ns rising) (All-tail (λ (x : NodeView). x.status ≡ Open → x.number ≡ f) n ns only))
    by_test false same other not_open rest = All-cons NotOpen n ns (λ e. other refl (All-head (λ (x : NodeView). x.status ≡ Open → x.number ≡ f) n ns only e)) (rest not_open)

pub only_of_none : (f : ℕ) (ns : List NodeView) → All NotOpen ns → All (λ (x : NodeView). x.status ≡ Open → x.number ≡ f) ns
only_of_none f ns none i d lt is_open = absurd (none i d lt is_open)

-- ---- a tree with nothing left to do is refuted

pub split_of : (status : Status) → (status ≢ Open) → ((l : Literal) → status ≢ Half l) → is_split status ≡ true
split_of Open not_open not_half = absurd (not_open refl)
split_of (Half l) not_open not_half = absurd (not_half l refl)
split_of (Split l) not_open not_half = refl

pruned_none : (ns : List NodeView) → All (λ (n : NodeView). is_split n.status ≡ true) ns → pruned ns ≡ []
pruned_none [] split = refl
pruned_none (n ∷ ns) split =
    let rest = pruned_none ns (All-tail (λ (n : NodeView). is_split n.status ≡ true) n ns split) in
    let here = All-head (λ (n : NodeView). is_split n.status ≡ true) n ns split in
    rw (rest, here) refl

pub refuted_of : (ns : List NodeView) → pruned ns ≡ ns → All NotOpen ns → All (λ (n : NodeView). (l : Literal) → n.status ≢ Half l) ns → ns ≡ []
refuted_of ns kept none_open none_half =
    sym kept ∙ pruned_none ns (λ i d lt. split_of (get_or ns i d).status (none_open i d lt) (none_half i d lt))
