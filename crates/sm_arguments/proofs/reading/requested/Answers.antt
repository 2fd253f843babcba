use Rattle.std.proofs.Common.{◌≡◌, ◌∙◌, refl, ap, subst, map, unwrap_or, codes, Option, Some, None, List, [], ◌∷◌, Bor}
use Rattle.std.specs.Option.{option_map}
use Rattle.clap.proofs.WalkLemmas.{raw_values-rows}
use Rattle.clap.specs.Words.{found_of, rows_of}
use Rattle.sm_arguments.specs.Request.{Word, Answers, asked_with}
use Rattle.sm_arguments.specs.App.{files_in, others_from, asked_by_rows}
use Rattle.sm_arguments.proofs.reading.requested.Goals as goal

-- the values of an argument that may be none
values_of : Option (List Word) → List Word
values_of o = unwrap_or o []

read_or_none : (o : Option (Bor (List (Bor Word)))) (d : Bor (List (Bor Word))) → d.now ≡ []
    → map (λ w. w.now) (unwrap_or o d).now ≡ values_of (option_map (λ s. map (λ w. w.now) s.now) o)
unfolding values_of
read_or_none (Some s) d none = refl
read_or_none None d none = ap (map (λ w. w.now)) none

pub returns : goal.returns
unfolding values_of
returns c =
    let files_are : map (λ f. f.now) c.unwrap_or-files.result.now ≡ files_in (rows_of (found_of c.args.matches.now))
    = ap (λ (f : Bor (List (Bor Word))). map (λ w. w.now) f.now) c.unwrap_or-files.ensures ∙ read_or_none c.get_strs.result _ refl
    ∙ ap values_of (c.get_strs.ensures ∙ raw_values-rows (found_of c.args.matches.now) (codes "files")) in
    let same : asked_with (c.in-Some.command.now ∷ c.in-Some-first.model.now ∷ map (λ f. f.now) c.unwrap_or-files.result.now) (Some c.is_given-brief.result)
    ≡ asked_by_rows (rows_of (found_of c.args.matches.now))
    = λ i. asked_with (others_from (c.in-Some.ensures i) (c.in-Some-first.ensures i) (files_are i)) (Some (c.is_given-brief.ensures i)) in
    subst (Answers c.asked.result) same c.asked.ensures
