use Rattle.std.proofs.Common.{refl}
use Rattle.sm_certificate.proofs.SlackLemmas.{columns_of, rows_of, solvable}
use Rattle.sm_certificate.proofs.conditions.is_solvable.Goals as goal

pub returns-then-not-are_columns : goal.returns-then-not-are_columns
returns-then-not-are_columns c = (λ t. absurd (cc), λ s. absurd (let t = c.if-not-are_columns.ensures.1 (columns_of c.args.program.now c.as_slice.result.now c.as_slice-2.result.now c.as_slice.ensures c.as_slice-2.ensures s) in cc))

pub returns-then-not-are_rows : goal.returns-then-not-are_rows
returns-then-not-are_rows c = (λ t. absurd (cc), λ s. absurd (let t = c.if-not-are_rows.ensures.1 (rows_of c.args.program.now c.len.result c.as_slice-3.result.now c.len.ensures c.as_slice-3.ensures s) in cc))

pub returns : goal.returns
returns c = (λ t. solvable c.args.program.now c.as_slice.result.now c.as_slice-2.result.now c.len.result c.as_slice-3.result.now c.as_slice.ensures c.as_slice-2.ensures c.len.ensures c.as_slice-3.ensures (c.if-not-are_columns.ensures.0 refl) (c.if-not-are_rows.ensures.0 refl) (c.is_numbered.ensures.0 t), λ s. c.is_numbered.ensures.1 s.numbered)
