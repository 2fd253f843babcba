use Rattle.std.proofs.Common.{◌∙◌, ap, sym, subst, ℕ, List, map, take, drop, [], ◌∷◌, ◌++◌, ◌+◌, add-one}
use Rattle.std.proofs.Math.Seq.{take-suc}
use Rattle.sm_syntax.specs.declared.place.Place.{Place}
use Rattle.sm_syntax.specs.declared.tree.Tag.{Tag as TagNode}
use Rattle.sm_syntax.specs.Trees.{Tag, tag_of}
use Rattle.sm_meaning.specs.declared.refusal.ExpandRefusal.{ExpandRefusal}
use Rattle.sm_meaning.specs.declared.refusal.ExpandRefusal.TheVariants.{Meaning}
use Rattle.sm_meaning.specs.declared.refusal.Wrong.TheVariants.{Doubled}
use Rattle.sm_meaning.specs.Trials.{IsStopped}
use Rattle.sm_meaning.specs.Tags.{tags_tried}
use Rattle.sm_drafts.specs.TagDrafts.{tags_of}
use Rattle.sm_drafts.proofs.Parts.{split_item}
use Rattle.sm_demands.proofs.TagTrials.{TagsLeft, has, word_stops, left_more}
use Rattle.sm_demands.proofs.tagging.tags.Goals as goal

pub returns-then-has_word : goal.returns-then-has_word
returns-then-has_word c =
    let s = c.args.scope.now in
    let b = c.args.cases.now.tuple in
    let xs = c.args.tags.now in
    let i = c.loop-i.i in
    let x = c.index-tags-i.result in
    let all = map tag_of xs in
    let left = subst (λ (rest : List Tag). TagsLeft s b all c.args.visited.now (take i xs) rest c.loop-i.visited (tags_of c.loop-i.draft)) (ap (map tag_of) (split_item xs i x c.loop-i-test.true c.index-tags-i.is)) c.loop-i.invariant in
    let stops = word_stops s b all c.args.visited.now (take i xs) x (map tag_of (drop (i + 1) xs)) c.loop-i.visited (tags_of c.loop-i.draft) left
    c.with_tag.new.visited c.in_ok-draft.ensures.0 c.has_word.result (c.has_word.ensures ∙ ap (has (take i xs)) c.word_of.ensures) c.if-has_word.true in
    let refusal = c.at.ensures ∙ ap (λ (p : Place). Meaning p.line p.column Doubled) c.place_of.ensures in
    subst (λ (e : ExpandRefusal). IsStopped e (tags_tried s b [] all c.args.visited.now)) (sym refusal) stops

pub loop-i-preserved : goal.loop-i-preserved
loop-i-preserved c =
    let s = c.args.scope.now in
    let b = c.args.cases.now.tuple in
    let xs = c.args.tags.now in
    let i = c.loop-i.i in
    let x = c.index-tags-i.result in
    let all = map tag_of xs in
    let left = subst (λ (rest : List Tag). TagsLeft s b all c.args.visited.now (take i xs) rest c.loop-i.visited (tags_of c.loop-i.draft)) (ap (map tag_of) (split_item xs i x c.loop-i-test.true c.index-tags-i.is)) c.loop-i.invariant in
    let more = left_more s b all c.args.visited.now (take i xs) x (map tag_of (drop (i + 1) xs)) c.loop-i.visited (tags_of c.loop-i.draft) left
    c.with_tag.new.visited c.in_ok-draft.ensures.0 c.has_word.result (c.has_word.ensures ∙ ap (has (take i xs)) c.word_of.ensures) (tags_of c.in_ok-draft.draft) c.if-has_word.false c.in_ok-draft.ensures.1 in
    let gone = sym (ap (λ (k : ℕ). take k xs) (add-one i) ∙ take-suc xs i x c.loop-i-test.true ∙ ap (λ (y : TagNode). take i xs ++ y ∷ []) (sym c.index-tags-i.is)) in
    subst (λ (ys : List TagNode). TagsLeft s b all c.args.visited.now ys (map tag_of (drop (i + 1) xs)) c.with_tag.new.visited (tags_of c.in_ok-draft.draft)) gone more
