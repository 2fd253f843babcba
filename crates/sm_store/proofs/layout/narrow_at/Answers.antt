use Rattle.sm_store.proofs.Laying.{narrowed_empty, narrowed_some, changes_there, changes_back}
use Rattle.sm_store.proofs.layout.narrow_at.Goals as goal

pub narrow-changes-requires : goal.narrow-changes-requires
narrow-changes-requires c = (c.requires.block.parts.each c.args.literal.now.var c.requires.known).part

pub returns-then-is_empty-clause-block : goal.returns-then-is_empty-clause-block
returns-then-is_empty-clause-block c =
    (narrowed_empty c.args.places.now c.args.block.now c.args.empty.now c.args.literal.now c.narrow-changes.new.part c.requires.block c.requires.known c.narrow-changes.ensures.len c.narrow-changes.ensures.part c.narrow-changes.ensures.values (c.is_empty.ensures.0 c.if-is_empty.true)).block

pub returns-then-is_empty-clause-narrowed : goal.returns-then-is_empty-clause-narrowed
returns-then-is_empty-clause-narrowed c =
    (narrowed_empty c.args.places.now c.args.block.now c.args.empty.now c.args.literal.now c.narrow-changes.new.part c.requires.block c.requires.known c.narrow-changes.ensures.len c.narrow-changes.ensures.part c.narrow-changes.ensures.values (c.is_empty.ensures.0 c.if-is_empty.true)).narrowed

pub returns-then-is_empty-clause-changed : goal.returns-then-is_empty-clause-changed
returns-then-is_empty-clause-changed c =
    (λ t. changes_there c.args.places.now c.args.block.now c.args.literal.now (c.narrow-changes.ensures.changed.0 t), λ h. c.narrow-changes.ensures.changed.1 (changes_back c.args.places.now c.args.block.now c.args.literal.now h))

pub returns-else-is_empty-clause-block : goal.returns-else-is_empty-clause-block
returns-else-is_empty-clause-block c =
    (narrowed_some c.args.places.now c.args.block.now c.args.empty.now c.args.literal.now c.narrow-changes.new.part c.requires.block c.requires.known c.narrow-changes.ensures.len c.narrow-changes.ensures.part c.narrow-changes.ensures.values (λ none. let t = c.is_empty.ensures.1 none in absurd (cc))).block

pub returns-else-is_empty-clause-narrowed : goal.returns-else-is_empty-clause-narrowed
returns-else-is_empty-clause-narrowed c =
    (narrowed_some c.args.places.now c.args.block.now c.args.empty.now c.args.literal.now c.narrow-changes.new.part c.requires.block c.requires.known c.narrow-changes.ensures.len c.narrow-changes.ensures.part c.narrow-changes.ensures.values (λ none. let t = c.is_empty.ensures.1 none in absurd (cc))).narrowed

pub returns-else-is_empty-clause-changed : goal.returns-else-is_empty-clause-changed
returns-else-is_empty-clause-changed c =
    (λ t. changes_there c.args.places.now c.args.block.now c.args.literal.now (c.narrow-changes.ensures.changed.0 t), λ h. c.narrow-changes.ensures.changed.1 (changes_back c.args.places.now c.args.block.now c.args.literal.now h))
