use Rattle.std.proofs.Common.{◌≡◌, true, false, sym, ◌∙◌}
use Rattle.sm_rules.specs.Trees.{focus_of, has_empty, with_focus, narrowed_focus}
use Rattle.sm_rules.proofs.FocusChanges.{narrowed_open, narrowed_pruned, emptied, filled}
use Rattle.sm_rules.proofs.tree.Tree.narrow_focus.Goals as goal

pub is_empty-requires : goal.is_empty-requires
is_empty-requires c = rw c.in_ok-narrow.ensures.ok (narrowed_open c.args.self.now c.args.literals.now c.requires.open)

pub close_focus-requires-clause-open : goal.close_focus-requires-clause-open
close_focus-requires-clause-open c = rw c.in_ok-narrow.ensures.ok (narrowed_open c.args.self.now c.args.literals.now c.requires.open)

pub close_focus-requires-clause-kept : goal.close_focus-requires-clause-kept
close_focus-requires-clause-kept c = rw c.in_ok-narrow.ensures.ok (narrowed_pruned c.args.self.now c.args.literals.now c.requires.open c.requires.kept)

pub returns-then-is_empty-clause-ok : goal.returns-then-is_empty-clause-ok
returns-then-is_empty-clause-ok c =
    let empty : has_empty (focus_of c.narrow.new.self).store ≡ true = sym c.is_empty.ensures ∙ c.if-is_empty.true in
    let narrowed : has_empty (focus_of (with_focus c.args.self.now (narrowed_focus c.args.literals.now c.args.self.now))).store ≡ true = rw c.in_ok-narrow.ensures.ok at empty in
    rw (c.close_focus.ensures, c.in_ok-narrow.ensures.ok) (emptied c.args.self.now c.args.literals.now c.requires.open narrowed)

pub returns-else-is_empty-clause-ok : goal.returns-else-is_empty-clause-ok
returns-else-is_empty-clause-ok c =
    let some : has_empty (focus_of c.narrow.new.self).store ≡ false = sym c.is_empty.ensures ∙ c.if-is_empty.false in
    let narrowed : has_empty (focus_of (with_focus c.args.self.now (narrowed_focus c.args.literals.now c.args.self.now))).store ≡ false = rw c.in_ok-narrow.ensures.ok at some in
    rw c.in_ok-narrow.ensures.ok (filled c.args.self.now c.args.literals.now c.requires.open narrowed)
