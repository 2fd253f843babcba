-- The state of a log.
use Rattle.std.specs.Prelude.{ℕ, List, Option}
use Rattle.sm_kinds.specs.declared.literal.Literal.{Literal}
use Rattle.sm_flat.specs.Assignments.{Numbers}
use Rattle.sm_step.specs.declared.verdict.Verdict.{Verdict}
use Rattle.sm_rules.specs.declared.last_line.LastLine.{LastLine}
use Rattle.sm_rows.specs.declared.row.Row.{Row}
use Rattle.sm_rules.specs.Trees.{Tree}

pub record State : Type 0 where
  -- the header's, once it stood
  pub version : Option ℕ
  pub main : Tree
  -- by number, from 0; none where it was given up
  pub lemmas : List (Option (List Literal))
  pub cuts : List (Option Row)
  pub best : Option Numbers
  pub last : LastLine
  pub verdict : Option Verdict

-- the tree that lines work on: the main one, since no frame is open yet
abbrev pub current : State → Tree
current s = s.main
