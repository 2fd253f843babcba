use Rattle.std.proofs.Common.{◌≡◌, ◌++◌}
use Rattle.std.specs.Prelude.{drop}
use Rattle.test_tables.specs.Answers.{indented}
use Rattle.test_tables.proofs.answers.Answers.put_indented.Given as goal

-- what was put, joined with what the rest will put, is the whole
abbrev pub invariant-loop-byte : goal.invariant-loop-byte
invariant-loop-byte l = (l.self-inside.text.items ++ indented (drop l.byte-index l.text) ≡ l.initial.self-inside.text.items ++ indented l.text) × (l.self-inside.lines.items ≡ l.initial.self-inside.lines.items)
