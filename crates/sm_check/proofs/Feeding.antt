-- From fetch to fetch.
use Rattle.std.proofs.Common.{◌≡◌, ◌≢◌, ◌++◌, ◌+◌, ◌-◌, ◌^◌, ◌<◌, ◌≤◌, ℕ, List, [], ◌∷◌, length, take, drop, Option, Some, None, refl, sym, ap, ◌∙◌, append_assoc, append-nil, add-zero, arith, inl, inr, length-append}
use Rattle.std.specs.Prelude.{IfSome}
use Rattle.std.proofs.Math.Seq.{take-add}
use Rattle.std.proofs.lemmas.List.{drop-drop, take_at}
use Rattle.sm_check.specs.Feeds.{Fed, HasNoEnd, IsPiece, IsTooLong, Fetches, Gathers, Readies}

told_none : (held : Option (List ℕ)) (place : ℕ) → IfSome held (λ file. [] ≡ take 0 (drop place file))
told_none None place = tt
told_none (Some file) place = refl

pub gathers_none : (held : Option (List ℕ)) (f : Fed) → Gathers held f f
gathers_none held f = record { more = []; left = sym (append-nil f.left); place = sym (add-zero f.place); told = told_none held f.place }

told_both : (held : Option (List ℕ)) (place n : ℕ) (one two : List ℕ) → n ≡ place + length one → IfSome held (λ file. one ≡ take (length one) (drop place file)) → IfSome held (λ file. two ≡ take (length two) (drop n file)) → IfSome held (λ file. one ++ two ≡ take (length (one ++ two)) (drop place file))
told_both None place n one two e a b = tt
told_both (Some file) place n one two e a b = rw (length-append one two, take-add (length one) (length two) (drop place file), sym a, drop-drop (length one) place file, sym e, sym b) refl

pub gathers_more : (held now : Option (List ℕ)) (a b c : Fed) (n : ℕ) → now ≡ held → Gathers held a b → Fetches now b c n → Gathers held a c
gathers_more held now a b c n same g f = let told = rw same at f.told in record {
  more = g.more ++ f.more;
  left = rw (f.left, g.left) (append_assoc a.left g.more f.more);
  place = let sum = length-append g.more f.more in omega (arith, f.place, g.place, sum, f.count);
  told = told_both held a.place b.place g.more f.more g.place g.told (rw f.count told);
}

pub readies_piece : (held : Option (List ℕ)) (a b : Fed) (n : ℕ) → Gathers held a b → n ≤ length b.left → IsPiece (take n b.left) → Readies held a b n
readies_piece held a b n g within piece = record { gathers = g; within = within; front = inl piece }

none_more : (more : List ℕ) → length more ≡ 0 → more ≡ []
none_more [] e = refl
none_more (x ∷ xs) e = absurd (omega (arith, e))

ends_now : (held now : Option (List ℕ)) (n place : ℕ) → now ≡ held → n ≡ 0 → IfSome now (λ file. n ≡ 0 → length file ≤ place) → IfSome held (λ file. length file ≤ place)
ends_now None now n place same none ends = tt
ends_now (Some file) now n place same none ends = let ends = rw same at ends in ends none

pub readies_end : (held now : Option (List ℕ)) (a b c : Fed) (n : ℕ) → now ≡ held → Gathers held a b → Fetches now b c n → n ≡ 0 → HasNoEnd b.left → Readies held a c (length b.left)
readies_end held now a b c n same g f none single =
    let e : f.more ≡ [] = none_more f.more (f.count ∙ none) in
    let left : c.left ≡ b.left = f.left ∙ ap (λ (x : List ℕ). b.left ++ x) e ∙ append-nil b.left in
    let place : c.place ≡ b.place = f.place ∙ ap (λ (x : ℕ). b.place + x) none ∙ add-zero b.place in
    record {
      gathers = gathers_more held now a b c n same g f;
      within = rw left (omega arith);
      front = inr (ap length (sym left), rw left single, inl (rw place (ends_now held now n b.place same none f.ends)));
    }

pub readies_long : (held : Option (List ℕ)) (a b : Fed) (n : ℕ) → Gathers held a b → n ≡ length b.left → HasNoEnd b.left → IsTooLong b.left → Readies held a b n
readies_long held a b n g all single long = record { gathers = g; within = omega (arith, all); front = inr (all, single, inr long) }

-- ---- the loop

pub fetch_falls : (held : Option (List ℕ)) (b c : Fed) (n : ℕ) → Fetches held b c n → n ≢ 0 → c.place ≤ 2 ^ 40 → 2 ^ 40 - c.place < 2 ^ 40 - b.place
fetch_falls held b c n f some limit = let place = f.place in omega (arith, place, limit, some)

pub seen_within : (held : Option (List ℕ)) (b c : Fed) (n : ℕ) → Fetches held b c n → length b.left ≤ length c.left
seen_within held b c n f = let sum = length-append b.left f.more in rw f.left (omega (arith, sum))

pub seen_none : (held : Option (List ℕ)) (b c : Fed) (n : ℕ) → Fetches held b c n → HasNoEnd b.left → HasNoEnd (take (length b.left) c.left)
seen_none held b c n f single = rw (f.left, take_at b.left f.more (length b.left) refl) single
