use Rattle.std.proofs.Common.{◌≡◌, ◌≤◌, ◌-◌, refl, ap, arith, ℕ, zero, suc, map, length, take, get_or, List, [], ◌∷◌, Some, Bor}
use Rattle.std.specs.Option.{option_map_or}
use Rattle.sm_arguments.specs.Request.{Word, check, check_of, split_last}
use Rattle.sm_arguments.proofs.reading.check.Goals as goal

-- the last of some words, and those before it, where there are so many before it
split_last-at : (ws : List (Bor Word)) (d : Bor Word) (n : ℕ) → length ws ≡ suc n → split_last (map (λ w. w.now) ws) ≡ Some (map (λ w. w.now) (take n ws), (get_or ws n d).now)
split_last-at [] d n e = absurd (omega arith)
split_last-at (w ∷ []) d n e =
    let none : n ≡ 0 = omega arith in
    rw none refl
split_last-at (w ∷ v ∷ ws) d zero e = absurd (omega arith)
split_last-at (w ∷ v ∷ ws) d (suc n) e = ap (λ o. Some (option_map_or (λ parts. (w.now ∷ parts.0, parts.1)) o ([], w.now))) (split_last-at (v ∷ ws) d n (omega arith))

check_of-at : (model : Word) (ws before : List (Bor Word)) (d : Bor Word) → 1 ≤ length ws → before ≡ take (length ws - 1) ws
    → check_of model (map (λ w. w.now) ws) ≡ Some (check model (map (λ w. w.now) before) (get_or ws (length ws - 1) d).now)
check_of-at model ws before d some is = rw (split_last-at ws d (length ws - 1) (omega arith), is) refl

pub returns : goal.returns
returns c = check_of-at c.args.model.now c.args.files.now c.in_ok-data_files.data_files.items _ c.in-len1-up.len_at_least c.in_ok-data_files.ensures.items
