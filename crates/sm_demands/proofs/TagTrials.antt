-- Tags, one after another: what is left to try, and what they are so far.
use Rattle.std.proofs.Common.{◌≡◌, ◌∙◌, ap, sym, refl, ℕ, List, [], ◌∷◌, ◌++◌, Bool, true, false}
use Rattle.std.specs.Prelude.{◌==◌, ◌||◌}
use Rattle.std.specs.List.{list_any}
use Rattle.std.proofs.lemmas.List.Folds.{list_any-append}
use Rattle.sm_flat.specs.declared.tags.Tags.{Tags}
use Rattle.sm_syntax.specs.declared.tree.Tag.{Tag as TagNode}
use Rattle.sm_syntax.specs.Trees.{Tag, tag_of}
use Rattle.sm_meaning.specs.declared.refusal.ExpandRefusal.{ExpandRefusal}
use Rattle.sm_meaning.specs.declared.refusal.ExpandRefusal.TheVariants.{Meaning}
use Rattle.sm_meaning.specs.declared.refusal.Wrong.TheVariants.{Doubled}
use Rattle.sm_meaning.specs.Refusals.{wrong_if}
use Rattle.sm_meaning.specs.Trials.{Trial, ◌▸◌, reached, stopped, IsStopped, tried}
use Rattle.sm_meaning.specs.Scopes.{Tuple, Scope}
use Rattle.sm_meaning.specs.Tags.{with_tag, with_tags, default_tags, tags_at, word_of, tag_place, tag_number_tried, tags_tried}
use Rattle.sm_meaning.proofs.Steps.{stops, goes_on, stopped_same}

-- a tag among these has the word
abbrev pub has : List TagNode → ℕ → Bool
has ts w = list_any (λ (t : TagNode). word_of (tag_of t) == w) ts

-- a word is among these
abbrev pub among : List ℕ → ℕ → Bool
among ws w = list_any (λ (v : ℕ). v == w) ws

-- What is left to try comes to what all comes to, and so does what is left to say. The words before are those of the
-- tags that are gone through.
pub record TagsLeft (s : Scope) (b : Tuple) (all : List Tag) (start : ℕ) (gone : List TagNode) (rest : List Tag) (now : ℕ) (t : Tags) : Type 0 where
  pub before : List ℕ
  pub stood : (w : ℕ) → among before w ≡ has gone w
  pub tried : tags_tried s b before rest now ≡ tags_tried s b [] all start
  pub makes : with_tags s b rest t ≡ tags_at s b all

pub left_first : (s : Scope) (b : Tuple) (all : List Tag) (start : ℕ) (t : Tags) → t ≡ default_tags → TagsLeft s b all start [] all start t
left_first s b all start t is = record { before = []; stood = λ w. refl; tried = refl; makes = ap (with_tags s b all) is }

or_swapped : (x y : Bool) → (x || y) ≡ (y || (x || false))
or_swapped true true = refl
or_swapped true false = refl
or_swapped false true = refl
or_swapped false false = refl

-- one more word before, for one more tag that is gone through
one_word : (before : List ℕ) (gone : List TagNode) (x : TagNode) → ((w : ℕ) → among before w ≡ has gone w) → (w : ℕ) → among (word_of (tag_of x) ∷ before) w ≡ has (gone ++ x ∷ []) w
one_word before gone x stood w =
    ap (λ (y : Bool). (word_of (tag_of x) == w) || y) (stood w)
    ∙ or_swapped (word_of (tag_of x) == w) (has gone w)
    ∙ sym (list_any-append (λ (t : TagNode). word_of (tag_of t) == w) gone (x ∷ []))

module _ (s : Scope) (b : Tuple) (all : List Tag) (start : ℕ) (gone : List TagNode) (x : TagNode) (rest : List Tag) (now : ℕ) (t : Tags) (left : TagsLeft s b all start gone (tag_of x ∷ rest) now t) where
  abbrev word_tried : Trial
  word_tried = tried (wrong_if (among left.before (word_of (tag_of x))) (tag_place (tag_of x)) Doubled)

  abbrev later_tried : Trial
  later_tried = tags_tried s b (word_of (tag_of x) ∷ left.before) rest

  pub number_stops : (e : ExpandRefusal) → IsStopped e (tag_number_tried s b (tag_of x) now) → IsStopped e (tags_tried s b [] all start)
  number_stops e stop = stopped_same e _ _ left.tried (stops e (tag_number_tried s b (tag_of x)) (word_tried ▸ later_tried) now stop)

  module _ (after : ℕ) (goes : tag_number_tried s b (tag_of x) now ≡ reached after) (stood : Bool) (stood_is : stood ≡ has gone (word_of (tag_of x))) where
    found : among left.before (word_of (tag_of x)) ≡ stood
    found = left.stood (word_of (tag_of x)) ∙ sym stood_is

    onward : (word_tried ▸ later_tried) after ≡ tags_tried s b [] all start
    onward = sym (goes_on (tag_number_tried s b (tag_of x)) (word_tried ▸ later_tried) now after goes) ∙ left.tried

    pub word_stops : stood ≡ true → tags_tried s b [] all start ≡ stopped (Meaning (tag_place (tag_of x)).line (tag_place (tag_of x)).column Doubled)
    word_stops is_so = sym onward ∙ ap (λ (y : Bool). (tried (wrong_if y (tag_place (tag_of x)) Doubled) ▸ later_tried) after) (found ∙ is_so)

    pub left_more : (new : Tags) → stood ≡ false → new ≡ with_tag s b (tag_of x) t → TagsLeft s b all start (gone ++ x ∷ []) rest after new
    left_more new is_not is = record {
      before = word_of (tag_of x) ∷ left.before;
      stood = one_word left.before gone x left.stood;
      tried = sym (ap (λ (y : Bool). (tried (wrong_if y (tag_place (tag_of x)) Doubled) ▸ later_tried) after) (found ∙ is_not)) ∙ onward;
      makes = ap (with_tags s b rest) is ∙ left.makes;
    }

pub left_ends : (s : Scope) (b : Tuple) (all : List Tag) (start : ℕ) (gone : List TagNode) (now : ℕ) (t : Tags) → TagsLeft s b all start gone [] now t
    → (tags_tried s b [] all start ≡ reached now) × (t ≡ tags_at s b all)
left_ends s b all start gone now t h = (sym h.tried, h.makes)
