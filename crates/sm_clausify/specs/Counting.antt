-- How many clauses a formula and its negation have, part by part.
use Rattle.std.specs.Prelude.{ℕ, ◌+◌, ◌*◌, min, length, true, false, List, fold}
use Rattle.sm_clausify.specs.declared.counts.Counts.{Counts}
use Rattle.sm_clausify.specs.Propositions.{Proposition}
use Rattle.sm_clausify.specs.Clauses.{clauses_of}

-- the greatest number that a count tells
abbrev pub most : ℕ
most = 18446744073709551615

-- how many clauses a formula has, and how many its negation
abbrev pub counts_of : Proposition → Counts
counts_of p = record { plain = min (length (clauses_of p false)) most; negated = min (length (clauses_of p true)) most }

-- those of a literal
abbrev pub literal_counts : Counts
literal_counts = record { plain = 1; negated = 1 }

-- those of `all` over nothing, which has no clause
abbrev pub true_counts : Counts
true_counts = record { plain = 0; negated = 1 }

-- those of `any` over nothing, which has the empty clause
abbrev pub false_counts : Counts
false_counts = record { plain = 1; negated = 0 }

-- those of a negation
abbrev pub flipped_counts : Counts → Counts
flipped_counts c = record { plain = c.negated; negated = c.plain }

-- counts add up for `and`, and multiply for its negation
abbrev pub and_counts : Counts → Counts → Counts
and_counts c d = record { plain = min (c.plain + d.plain) most; negated = min (c.negated * d.negated) most }

-- they multiply for `or`, and add up for its negation
abbrev pub or_counts : Counts → Counts → Counts
or_counts c d = record { plain = min (c.plain * d.plain) most; negated = min (c.negated + d.negated) most }

-- those of `all` over parts, one after another
abbrev pub all_counts : List Counts → Counts
all_counts cs = fold and_counts true_counts cs

-- those of `any` over parts
abbrev pub any_counts : List Counts → Counts
any_counts cs = fold or_counts false_counts cs

abbrev pub implied_counts : Counts → Counts → Counts
implied_counts c d = or_counts (flipped_counts c) d

abbrev pub equivalent_counts : Counts → Counts → Counts
equivalent_counts c d = and_counts (implied_counts c d) (implied_counts d c)
