-- The numbers of one more constraint, one sort after another.
use Rattle.std.proofs.Common.{ℕ, ◌+◌}
use Rattle.std.specs.Prelude.{Result, Ok, Err}
use Rattle.sm_data.specs.declared.refusal.Counted.TheVariants as counted
use Rattle.sm_kinds.specs.Limits.{most_constraints}
use Rattle.sm_meaning.specs.declared.refusal.ExpandRefusal.{ExpandRefusal}
use Rattle.sm_meaning.specs.Trials.{Trial, ◌▸◌}
use Rattle.sm_meaning.specs.Demands.{Demand}
use Rattle.sm_meaning.specs.Limits.{row_coefficients_tried, bounds_of, entries_of, count_tried, terms_tried}
use Rattle.sm_drafts.specs.Drafts.{Passes, bounds_tried, entries_tried, front_tried}
use Rattle.sm_drafts.proofs.Parts.{refused_first, passed_first}

module _ (n : ℕ) (d : Demand) (k : ℕ) where
  abbrev coefficients : Trial
  coefficients = row_coefficients_tried n d

  abbrev bounds : Trial
  bounds = bounds_tried (bounds_of d)

  abbrev entries : Trial
  entries = entries_tried (entries_of d)

  abbrev room : Trial
  room = count_tried counted.Constraints most_constraints (k + 1)

  abbrev terms : Trial
  terms = terms_tried n d

  pub coefficients_refused : (e : ExpandRefusal) → Passes coefficients (Err e) → Passes (front_tried n d k) (Err e)
  coefficients_refused e h = refused_first e coefficients (bounds ▸ entries ▸ room ▸ terms) h

  pub bounds_refused : (e : ExpandRefusal) → Passes coefficients (Ok tt) → Passes bounds (Err e) → Passes (front_tried n d k) (Err e)
  bounds_refused e a h = passed_first coefficients (bounds ▸ entries ▸ room ▸ terms) (Err e) a (refused_first e bounds (entries ▸ room ▸ terms) h)

  -- the entries and what comes behind them decide
  by_entries : (r : Result (Unit {0}) ExpandRefusal) → Passes coefficients (Ok tt) → Passes bounds (Ok tt) → Passes (entries ▸ room ▸ terms) r → Passes (front_tried n d k) r
  by_entries r a b h = passed_first coefficients (bounds ▸ entries ▸ room ▸ terms) r a (passed_first bounds (entries ▸ room ▸ terms) r b h)

  pub entries_refused : (e : ExpandRefusal) → Passes coefficients (Ok tt) → Passes bounds (Ok tt) → Passes entries (Err e) → Passes (front_tried n d k) (Err e)
  entries_refused e a b h = by_entries (Err e) a b (refused_first e entries (room ▸ terms) h)

  pub room_refused : (e : ExpandRefusal) → Passes coefficients (Ok tt) → Passes bounds (Ok tt) → Passes entries (Ok tt) → Passes room (Err e) → Passes (front_tried n d k) (Err e)
  room_refused e a b c h = by_entries (Err e) a b (passed_first entries (room ▸ terms) (Err e) c (refused_first e room terms h))

  -- the terms decide
  pub front_passes : (r : Result (Unit {0}) ExpandRefusal) → Passes coefficients (Ok tt) → Passes bounds (Ok tt) → Passes entries (Ok tt) → Passes room (Ok tt) → Passes terms r → Passes (front_tried n d k) r
  front_passes r a b c o h = by_entries r a b (passed_first entries (room ▸ terms) r c (passed_first room terms r o h))
