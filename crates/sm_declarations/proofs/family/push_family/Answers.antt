use Rattle.std.proofs.Common.{rules, ◌≡◌, ◌∙◌, ap, arith, ℕ, List, map, length}
use Rattle.sm_syntax.specs.Trees.{kind_of}
use Rattle.sm_meaning.specs.Declarations.{member_name, index_tuples}
use Rattle.sm_declarations.proofs.Growing.{on_ok, family_names, family_grows, family_count}
use Rattle.sm_declarations.proofs.family.push_family.Goals as goal

pub returns-then-is_empty-clause-count : goal.returns-then-is_empty-clause-count
returns-then-is_empty-clause-count c =
    let text = c.args.name.now.text in
    let ranges = c.args.ranges.now in
    let names = c.in_ok-names.names.items in
    let are : names ≡ map (member_name text) (index_tuples ranges) = c.in_ok-names.ensures ∙ ap (λ (t : List ℕ). map (member_name t) (index_tuples ranges)) c.as_slice.ensures in
    let none : length names ≡ 0 = search rules in
    omega (arith, family_names text ranges names are, none)

pub push_members-requires : goal.push_members-requires
push_members-requires c =
    let text = c.args.name.now.text in
    let ranges = c.args.ranges.now in
    let names = c.in_ok-names.names.items in
    let are : names ≡ map (member_name text) (index_tuples ranges) = c.in_ok-names.ensures ∙ ap (λ (t : List ℕ). map (member_name t) (index_tuples ranges)) c.as_slice.ensures in
    omega (arith, c.requires, family_names text ranges names are, ap (λ ns. length ns) c.as_slice-2.ensures.value)

pub returns-clause-grows : goal.returns-clause-grows
returns-clause-grows c =
    let name = c.args.name.now in
    let ranges = c.args.ranges.now in
    let k = kind_of c.args.kind.now in
    let names = c.in_ok-names.names.items in
    let are : names ≡ map (member_name name.text) (index_tuples ranges) = c.in_ok-names.ensures ∙ ap (λ (t : List ℕ). map (member_name t) (index_tuples ranges)) c.as_slice.ensures in
    on_ok c.push_members.result _ _ (λ g s numbers. family_grows c.args.made.now c.push_members.new.made name ranges k s c.var_kind.result c.as_slice-3.result.now c.as_slice-2.result.now
    (c.as_slice-2.ensures.value ∙ are) c.var_kind.ensures (c.as_slice-3.ensures.value ∙ c.in_ok-values.ensures s numbers) g) c.push_members.ensures.grows

pub returns-clause-count : goal.returns-clause-count
returns-clause-count c =
    let name = c.args.name.now in
    let ranges = c.args.ranges.now in
    let names = c.in_ok-names.names.items in
    let are : names ≡ map (member_name name.text) (index_tuples ranges) = c.in_ok-names.ensures ∙ ap (λ (t : List ℕ). map (member_name t) (index_tuples ranges)) c.as_slice.ensures in
    on_ok c.push_members.result _ _ (λ g. family_count c.args.made.now c.push_members.new.made name.place name.text ranges c.var_kind.result c.as_slice-3.result.now c.as_slice-2.result.now (c.as_slice-2.ensures.value ∙ are) g)
    c.push_members.ensures.grows
