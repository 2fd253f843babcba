-- Reading a list, part by part.
use Rattle.std.proofs.Common.{◌≡◌, ℕ, ◌+◌, ◌<◌, List, [], ◌∷◌, ◌++◌, length, Bool, true, false, Option, Some, None, Ok, Err, refl, sym, ◌∙◌, ap, arith, length-append}
use Rattle.sm_step.specs.declared.refusal.LineRefusal.TheVariants.{BadLine, OutOfMemory}
use Rattle.sm_step.specs.PartText.{each_after, joined, joined_or_none}
use Rattle.sm_step.specs.Reading.{Reads, done, follow, ◌>>=◌, rest_behind, each_in, joined_in}
use Rattle.sm_step.specs.Taking.{Place, failed, accepts, Accepts, takes, Takes}
use Rattle.std.proofs.lemmas.List.{append-nil}
use Rattle.sm_step.proofs.Takings.{next, only, told}
use Rattle.sm_step.proofs.Repeated.{Reached, reached_none, reached_more, reached_all, reached_bad, each_more}

abbrev so_far : {X : Type 0} → ℕ → Reads X → (X → List ℕ) → Place → List X → Place → Type 0
so_far mark part text (Ok whole) xs (Ok rest) = (whole ≡ each_after mark text xs ++ rest) × Reached mark part whole xs rest
so_far mark part text (Ok whole) xs (Err BadLine) = each_in mark part whole ≡ None
so_far mark part text (Ok whole) xs (Err OutOfMemory) = Unit {0}
so_far mark part text (Err fault) xs new = new ≡ Err fault

-- these parts were read so far
pub record SoFar {X : Type 0} (mark : ℕ) (part : Reads X) (text : X → List ℕ) (old : Place) (xs : List X) (new : Place) : Type 0 where
  pub is : so_far mark part text old xs new

pub none_yet : {X : Type 0} {mark : ℕ} {part : Reads X} {text : X → List ℕ} {old : Place} → SoFar mark part text old [] old
none_yet {X} {mark} {part} {text} {old} = record { is = pick old }
  where
    pick : (old : Place) → so_far mark part text old [] old
    pick (Ok whole) = (refl, reached_none mark part whole)
    pick (Err fault) = refl

-- one more part
pub one_more : {X : Type 0} {mark : ℕ} {part : Reads X} {text : X → List ℕ} {old before mid new : Place} {xs ys : List X} {t : Bool} {x : X}
    → SoFar mark part text old xs before → Accepts (rest_behind (mark ∷ [])) (mark ∷ []) before t mid → t ≡ true → Takes part (text x) mid x new → ys ≡ xs ++ x ∷ [] → SoFar mark part text old ys new
one_more {X} {mark} {part} {text} {old} {before} {mid} {new} {xs} {ys} {t} {x} so one is two all = record { is = pick old before t mid new so.is one.is is two.is }
  where
    pick : (old before : Place) (t : Bool) (mid new : Place) → so_far mark part text old xs before → accepts (rest_behind (mark ∷ [])) (mark ∷ []) before t mid → t ≡ true
        → takes part (text x) mid x new → so_far mark part text old ys new
    pick old before false mid new s a is k = absurd (cc)
    pick (Ok whole) (Ok rest) true (Ok after) (Ok last) s a is k =
        (each_more mark text whole rest after last xs ys x s.0 a.1 k.1 all, reached_more mark part whole rest after last xs ys x s.1 a.0 k.0 all)
    pick (Ok whole) (Ok rest) true (Ok after) (Err BadLine) s a is k = reached_bad mark part text whole rest after xs s.1 s.0 a.0 k
    pick (Ok whole) (Ok rest) true (Ok after) (Err OutOfMemory) s a is k = tt
    pick (Err fault) (Ok rest) true mid new s a is k = absurd (cc)
    pick old (Ok rest) true (Err fault) new s a is k = absurd a
    pick old (Err fault) true mid new s a is k = absurd a

-- one more part, for which there was no memory
pub no_room : {X : Type 0} {mark : ℕ} {part : Reads X} {text : X → List ℕ} {old before mid after new : Place} {xs ys : List X} {t : Bool} {x : X}
    → SoFar mark part text old xs before → Accepts (rest_behind (mark ∷ [])) (mark ∷ []) before t mid → t ≡ true → Takes part (text x) mid x after → new ≡ failed OutOfMemory after → SoFar mark part text old ys new
no_room {X} {mark} {part} {text} {old} {before} {mid} {after} {new} {xs} {ys} {t} {x} so one is two all = rw all (record { is = pick old before t mid after so.is one.is is two.is })
  where
    pick : (old before : Place) (t : Bool) (mid after : Place) → so_far mark part text old xs before → accepts (rest_behind (mark ∷ [])) (mark ∷ []) before t mid → t ≡ true
        → takes part (text x) mid x after → so_far mark part text old ys (failed OutOfMemory after)
    pick old before false mid after s a is k = absurd (cc)
    pick (Ok whole) (Ok rest) true (Ok mid) (Ok last) s a is k = tt
    pick (Ok whole) (Ok rest) true (Ok mid) (Err BadLine) s a is k = reached_bad mark part text whole rest mid xs s.1 s.0 a.0 k
    pick (Ok whole) (Ok rest) true (Ok mid) (Err OutOfMemory) s a is k = tt
    pick (Err fault) (Ok rest) true mid after s a is k = absurd (cc)
    pick old (Ok rest) true (Err fault) after s a is k = absurd a
    pick old (Err fault) true mid after s a is k = absurd a

-- no further mark comes
pub all_read : {X : Type 0} {mark : ℕ} {part : Reads X} {text : X → List ℕ} {old before new : Place} {xs : List X} {t : Bool}
    → SoFar mark part text old xs before → Accepts (rest_behind (mark ∷ [])) (mark ∷ []) before t new → t ≡ false → Takes (each_in mark part) (each_after mark text xs) old xs new
all_read {X} {mark} {part} {text} {old} {before} {new} {xs} {t} so one is = record { is = pick old before t new so.is one.is is }
  where
    pick : (old before : Place) (t : Bool) (new : Place) → so_far mark part text old xs before → accepts (rest_behind (mark ∷ [])) (mark ∷ []) before t new → t ≡ false
        → takes (each_in mark part) (each_after mark text xs) old xs new
    pick old before true new s a is = absurd (cc)
    pick (Ok whole) (Ok rest) false (Ok last) s a is = let same : last ≡ rest = cc in rw same (reached_all mark part text whole rest xs s.1 s.0 a.0, s.0)
    pick (Ok whole) (Ok rest) false (Err fault) s a is = absurd (cc)
    pick (Ok whole) (Err fault) false (Ok last) s a is = absurd (cc)
    pick (Ok whole) (Err BadLine) false (Err BadLine) s a is = s
    pick (Ok whole) (Err OutOfMemory) false (Err BadLine) s a is = absurd (cc)
    pick (Ok whole) (Err fault) false (Err OutOfMemory) s a is = tt
    pick (Err fault) (Ok rest) false new s a is = absurd (cc)
    pick (Err fault) (Err other) false new s a is = a ∙ s

-- how many bytes are still to come
abbrev pub left : Place → ℕ
left (Ok rest) = length rest
left (Err fault) = 0

pub fewer : {X : Type 0} {mark : ℕ} {part : Reads X} {text : List ℕ} {before mid new : Place} {t : Bool} {x : X}
    → Accepts (rest_behind (mark ∷ [])) (mark ∷ []) before t mid → t ≡ true → Takes part text mid x new → left new < left before
fewer {X} {mark} {part} {text} {before} {mid} {new} {t} {x} one is two = pick before t mid new one.is is two.is
  where
    pick : (before : Place) (t : Bool) (mid new : Place) → accepts (rest_behind (mark ∷ [])) (mark ∷ []) before t mid → t ≡ true → takes part text mid x new → left new < left before
    pick before false mid new a is k = absurd (cc)
    pick (Ok rest) true (Ok after) (Ok last) a is k = omega (arith, ap length a.1, ap length k.1, length-append text last)
    pick (Ok rest) true (Ok after) (Err fault) a is k = omega (arith, ap length a.1)
    pick (Ok rest) true (Err fault) new a is k = absurd a
    pick (Err fault) true mid new a is k = absurd a

pub fewer_failed : (before after : Place) → left after < left before → left (failed OutOfMemory after) < left before
fewer_failed before (Ok rest) h = omega (arith, h)
fewer_failed before (Err fault) h = h

-- ---- one or more parts

-- what was read is no empty list
joined_some : {X : Type 0} (mark : ℕ) (part : Reads X) (text : X → List ℕ) (xs : List X) (bytes rest : List ℕ) → joined_in mark part bytes ≡ Some (xs, rest) → joined mark text xs ≡ joined_or_none mark text xs
unfolding joined_in
joined_some mark part text (x ∷ xs) bytes rest h = refl
joined_some {X} mark part text [] bytes rest h = absurd (pick (part bytes) h)
  where
    inner : (x : X) (o : Option (List X × List ℕ)) → follow o (λ xs. done (x ∷ xs)) ≡ Some ([], rest) → ⊥
    inner x None h = absurd (cc)
    inner x (Some r) h = let pair : ◌≡◌ {A = List X × List ℕ} (x ∷ r.0, r.1) ([], rest) = cc in let list : x ∷ r.0 ≡ [] = ap (λ (p : List X × List ℕ). p.0) pair in absurd (cc)

    pick : (o : Option (X × List ℕ)) → follow o (λ x. each_in mark part >>= λ xs. done (x ∷ xs)) ≡ Some ([], rest) → ⊥
    pick None h = absurd (cc)
    pick (Some r) h = inner r.0 (each_in mark part r.1) h

pub listed : {X : Type 0} (mark : ℕ) (part : Reads X) (text : X → List ℕ) {old new : Place} {xs : List X}
    → Takes (joined_in mark part) (joined mark text xs) old xs new → Takes (joined_in mark part) (joined_or_none mark text xs) old xs new
listed {X} mark part text {old} {new} {xs} one = record { is = pick old new one.is }
  where
    pick : (old new : Place) → takes (joined_in mark part) (joined mark text xs) old xs new → takes (joined_in mark part) (joined_or_none mark text xs) old xs new
    pick (Ok bytes) (Ok rest) h = (h.0, rw (sym (joined_some mark part text xs bytes rest h.0)) h.1)
    pick (Ok bytes) (Err BadLine) h = h
    pick (Ok bytes) (Err OutOfMemory) h = tt
    pick (Err fault) new h = h

-- what is read stays so where memory ran out behind it
pub lost : {X : Type 0} {part : Reads X} {w v : List ℕ} {old mid new : Place} {x y : X} → Takes part w old x mid → new ≡ failed OutOfMemory mid → Takes part v old y new
lost {X} {part} {w} {v} {old} {mid} {new} {x} {y} one is = rw is (record { is = pick old mid one.is })
  where
    pick : (old mid : Place) → takes part w old x mid → takes part v old y (failed OutOfMemory mid)
    pick (Ok bytes) (Ok rest) h = tt
    pick (Ok bytes) (Err BadLine) h = h
    pick (Ok bytes) (Err OutOfMemory) h = tt
    pick (Err fault) (Ok rest) h = absurd (cc)
    pick (Err fault) (Err before) h = h

-- a first part and the others
pub joined_read : {X : Type 0} (mark : ℕ) (part : Reads X) (text : X → List ℕ) {old mid new : Place} {x : X} {xs : List X}
    → Takes part (text x) old x mid → Takes (each_in mark part) (each_after mark text xs) mid xs new → Takes (joined_in mark part) (joined mark text (x ∷ xs)) old (x ∷ xs) new
unfolding joined_in
joined_read mark part text {old} {mid} {new} {x} {xs} one two =
    told (next (λ y. each_in mark part >>= λ ys. done (y ∷ ys)) one (next (λ ys. done (x ∷ ys)) two only)) (ap (λ (t : List ℕ). text x ++ t) (append-nil (each_after mark text xs)))
