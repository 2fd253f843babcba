use Rattle.std.proofs.Common.{Bor, List, ℕ, ◌≡◌, ◌∙◌, sym, refl, rules, inl, inr, true, map, Some, ◌∷◌, [], ◌++◌, subst}
use Rattle.std.specs.Result.{is_ok}
use Rattle.std.proofs.lemmas.List.{map-append}
use Rattle.csv.specs.Reading.{Reached, default_config, strip_bom}
use Rattle.csv.specs.Records.{fields_of}
use Rattle.csv.specs.declared.parser.State.TheVariants as st
use Rattle.csv.proofs.ReadFacts.{rows-end, rows-more}
use Rattle.sm_data.specs.Records.{HaveWidth, Fields, refusal_by}
use Rattle.sm_data.specs.declared.refusal.DataCause.TheVariants as cause
use Rattle.sm_data.specs.Numbers.{bad}
use Rattle.sm_data.proofs.Widths.{refused, width_more}
use Rattle.sm_data.proofs.records.rows.Goals as goal

pub loop-row-init : goal.loop-row-init
unfolding Reached
loop-row-init c =
    let fr = c.from_reader-rdr.ensures in
    let e = c.has_headers.ensures in
    let start = c.into_iter-row-iterator.ensures.into_iter_gives ∙ refl in
    let rdr = c.into_byte_records-row-items.ensures.rdr in
    let left = c.into_byte_records-row-items.ensures.left in
    rw (start, rdr, c.new-rows.ensures.items) (
      rw (e) at fr.trim ∙ c.new.ensures.trim,
      inr (inr (rw e at fr.has_headers, fr.headers)),
      left,
      rw e at fr.config ∙ c.new.ensures.config,
      strip_bom c.args.bytes.now,
      fr.source,
      (sym fr.state, refl),
      rw e at fr.flexible ∙ c.new.ensures.flexible,
      fr.expected,
    )

pub loop-row-preserved : goal.loop-row-preserved
loop-row-preserved c =
    let inv = c.loop-row.invariant in
    let steps = c.next.ensures.steps inv.2 inv.0 in
    let s = rw (c.in-Some.is, c.in-Ok.is) at (steps.0 inv.1) in
    let flexible = rw (c.in-Some.is, c.in-Ok.is) at steps.3 in
    let good : is_ok c.push.result ≡ true = search rules in
    let items = rw good at c.push.ensures.items in
    let m = rows-more (λ (s : Bor (List ℕ)). Some s.now) c.loop-row.row-iterator.rdr c.next.new.self.rdr (fields_of c.in-Ok.row) default_config st.StartRecord (strip_bom c.args.bytes.now) inv.4 (map fields_of c.loop-row.rows.items) inv.3 inv.5 inv.6 s.0 in
    let widths = s.0.5 refl inv.7 in
    let more = width_more (map fields_of c.loop-row.rows.items) c.loop-row.row-iterator.rdr.expected c.next.new.self.rdr.expected (fields_of c.in-Ok.row) inv.8 widths.0 widths.1 in
    let rows_are : map fields_of c.push.new.self.items ≡ map fields_of c.loop-row.rows.items ++ fields_of c.in-Ok.row ∷ [] = rw items (map-append fields_of c.loop-row.rows.items (c.in-Ok.row ∷ [])) in
    (s.0.3 ∙ inv.0, inl s.1, s.2, s.0.2 ∙ inv.3, m.0, m.1, rw rows_are m.2, flexible ∙ inv.7, subst (λ (rs : List Fields). HaveWidth rs c.next.new.self.rdr.expected) (sym rows_are) more)

pub returns-in-Err-clause-csv : goal.returns-in-Err-clause-csv
returns-in-Err-clause-csv c = λ e.
    let inv = c.loop-row.invariant in
    let why = rw (c.in-Some.is, c.in-Err.is) at ((c.next.ensures.steps inv.2 inv.0).0 inv.1) in
    let is : refusal_by c.in-Err.error.kind ≡ bad cause.Csv = sym c.refusal_of.ensures ∙ (let same : c.refusal_of.result ≡ bad cause.Csv = cc in same) in
    refused (λ (s : Bor (List ℕ)). Some s.now) c.loop-row.row-iterator.rdr c.next.new.self.rdr c.args.bytes.now inv.4 (map fields_of c.loop-row.rows.items) c.in-Err.error.kind
    inv.3 inv.5 inv.6 inv.8 why is

pub returns-clause-found : goal.returns-clause-found
returns-clause-found c =
    let inv = c.loop-row.invariant in
    let s = rw c.in-None.is at ((c.next.ensures.steps inv.2 inv.0).0 inv.1) in
    record {
      records = (c.loop-row.row-iterator.rdr.state, inv.4, inv.6, rows-end (λ (s : Bor (List ℕ)). Some s.now) c.loop-row.row-iterator.rdr c.next.new.self.rdr [] default_config inv.4 inv.3 inv.5 s);
      width = c.loop-row.row-iterator.rdr.expected;
      even = inv.8;
    }
