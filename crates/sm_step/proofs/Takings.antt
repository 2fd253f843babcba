-- Steps of a reader, one after another.
use Rattle.std.proofs.Common.{◌≡◌, ℕ, ℤ, List, [], ◌∷◌, ◌++◌, length, Bool, true, false, Option, Some, None, Ok, Err, refl, sym, ◌∙◌, ap, append_assoc}
use Rattle.std.specs.Prelude.{codes, IsOk}
use Rattle.std.proofs.lemmas.List.{append-nil}
use Rattle.sm_step.specs.declared.refusal.LineRefusal.{LineRefusal}
use Rattle.sm_step.specs.declared.refusal.LineRefusal.TheVariants.{BadLine, OutOfMemory}
use Rattle.sm_step.specs.Reading.{Reads, done, follow, ◌>>=◌, rest_behind, choose, either, ahead, behind}
use Rattle.sm_step.specs.Taking.{Place, failed, accepts, Accepts, passes, Passes, takes, Takes, TakesBehind}

-- nothing is read
pub only : {X : Type 0} {x : X} {p : Place} → Takes (done x) [] p x p
only {X} {x} {p} = record { is = pick p }
  where
    pick : (p : Place) → takes (done x) [] p x p
    pick (Ok bytes) = (refl, refl)
    pick (Err fault) = refl

-- one part, and then another
pub next : {X Y : Type 0} {part : Reads X} (others : X → Reads Y) {w v : List ℕ} {old mid new : Place} {x : X} {y : Y}
    → Takes part w old x mid → Takes (others x) v mid y new → Takes (part >>= others) (w ++ v) old y new
next {X} {Y} {part} others {w} {v} {old} {mid} {new} {x} {y} one two = record { is = pick old mid new one.is two.is }
  where
    pick : (old mid new : Place) → takes part w old x mid → takes (others x) v mid y new → takes (part >>= others) (w ++ v) old y new
    pick (Ok bytes) (Ok rest) (Ok last) h k = (rw h.0 k.0, h.1 ∙ ap (λ (t : List ℕ). w ++ t) k.1 ∙ sym (append_assoc w v last))
    pick (Ok bytes) (Ok rest) (Err BadLine) h k = rw h.0 k
    pick (Ok bytes) (Ok rest) (Err OutOfMemory) h k = tt
    pick (Ok bytes) (Err BadLine) (Ok last) h k = absurd (cc)
    pick (Ok bytes) (Err BadLine) (Err BadLine) h k = rw h refl
    pick (Ok bytes) (Err BadLine) (Err OutOfMemory) h k = tt
    pick (Ok bytes) (Err OutOfMemory) (Ok last) h k = absurd (cc)
    pick (Ok bytes) (Err OutOfMemory) (Err BadLine) h k = absurd (cc)
    pick (Ok bytes) (Err OutOfMemory) (Err OutOfMemory) h k = tt
    pick (Err fault) mid new h k = pass mid h k
      where
        pass : (mid : Place) → mid ≡ Err fault → takes (others x) v mid y new → new ≡ Err fault
        pass (Ok rest) e k = absurd (cc)
        pass (Err other) e k = k ∙ e

-- a part behind what was passed over
pub passed : {X : Type 0} {front : List ℕ → Option (List ℕ)} {part : Reads X} {w v : List ℕ} {old mid new : Place} {x : X}
    → Passes front w old mid → Takes part v mid x new → Takes (ahead front part) (w ++ v) old x new
passed {X} {front} {part} {w} {v} {old} {mid} {new} {x} one two = record { is = pick old mid new one.is two.is }
  where
    pick : (old mid new : Place) → passes front w old mid → takes part v mid x new → takes (ahead front part) (w ++ v) old x new
    pick (Ok bytes) (Ok rest) (Ok last) h k = (rw h.0 k.0, h.1 ∙ ap (λ (t : List ℕ). w ++ t) k.1 ∙ sym (append_assoc w v last))
    pick (Ok bytes) (Ok rest) (Err BadLine) h k = rw h.0 k
    pick (Ok bytes) (Ok rest) (Err OutOfMemory) h k = tt
    pick (Ok bytes) (Err BadLine) (Ok last) h k = absurd (cc)
    pick (Ok bytes) (Err BadLine) (Err BadLine) h k = rw h refl
    pick (Ok bytes) (Err BadLine) (Err OutOfMemory) h k = tt
    pick (Ok bytes) (Err OutOfMemory) new h k = absurd h
    pick (Err fault) mid new h k = pass mid h k
      where
        pass : (mid : Place) → mid ≡ Err fault → takes part v mid x new → new ≡ Err fault
        pass (Ok rest) e k = absurd (cc)
        pass (Err other) e k = k ∙ e

-- the first part, where its front came
pub first : {X : Type 0} {front : List ℕ → Option (List ℕ)} {part : Reads X} (others : Reads X) {w v : List ℕ} {old mid new : Place} {t : Bool} {x : X}
    → Accepts front w old t mid → t ≡ true → Takes part v mid x new → Takes (either front part others) (w ++ v) old x new
first {X} {front} {part} others {w} {v} {old} {mid} {new} {t} {x} one is two = record { is = pick old t mid new one.is is two.is }
  where
    pick : (old : Place) (t : Bool) (mid new : Place) → accepts front w old t mid → t ≡ true → takes part v mid x new → takes (either front part others) (w ++ v) old x new
    pick old false mid new h is k = absurd (cc)
    pick (Ok bytes) true (Ok rest) (Ok last) h is k = (rw h.0 k.0, h.1 ∙ ap (λ (t : List ℕ). w ++ t) k.1 ∙ sym (append_assoc w v last))
    pick (Ok bytes) true (Ok rest) (Err BadLine) h is k = rw h.0 k
    pick (Ok bytes) true (Ok rest) (Err OutOfMemory) h is k = tt
    pick (Ok bytes) true (Err fault) new h is k = absurd h
    pick (Err fault) true mid new h is k = absurd h

-- the text, written in another way
pub told : {X : Type 0} {part : Reads X} {w v : List ℕ} {old new : Place} {x : X} → Takes part w old x new → w ≡ v → Takes part v old x new
told {X} {part} {w} {v} {old} {new} {x} one e = rw (sym e) one

-- the same, where a fault has no text
pub told_where : {X : Type 0} {part : Reads X} {w v : List ℕ} {old new : Place} {x : X} → Takes part w old x new → (IsOk new → w ≡ v) → Takes part v old x new
told_where {X} {part} {w} {v} {old} {new} {x} one e = record { is = pick old new one.is e }
  where
    pick : (old new : Place) → takes part w old x new → (IsOk new → w ≡ v) → takes part v old x new
    pick (Ok bytes) (Ok rest) h e = (h.0, rw (sym (e refl)) h.1)
    pick (Ok bytes) (Err BadLine) h e = h
    pick (Ok bytes) (Err OutOfMemory) h e = tt
    pick (Err fault) new h e = h

-- the same, where the part is told with its front's text
pub first_word : {X : Type 0} {front : List ℕ → Option (List ℕ)} {part : Reads X} (others : Reads X) {w v : List ℕ} {old mid new : Place} {t : Bool} {x : X}
    → Accepts front w old t mid → t ≡ true → TakesBehind w part v mid x new → Takes (either front part others) v old x new
first_word {X} {front} {part} others {w} {v} {old} {mid} {new} {t} {x} one is two = told_where (first others one is two.taken) two.same

-- the other part, where the front didn't come
pub other : {X : Type 0} {front : List ℕ → Option (List ℕ)} (part : Reads X) {others : Reads X} {w v : List ℕ} {old mid new : Place} {t : Bool} {x : X}
    → Accepts front w old t mid → t ≡ false → Takes others v mid x new → Takes (either front part others) v old x new
other {X} {front} part {others} {w} {v} {old} {mid} {new} {t} {x} one is two = record { is = pick old t mid new one.is is two.is }
  where
    pick : (old : Place) (t : Bool) (mid new : Place) → accepts front w old t mid → t ≡ false → takes others v mid x new → takes (either front part others) v old x new
    pick old true mid new h is k = absurd (cc)
    pick (Ok bytes) false (Ok rest) (Ok last) h is k = let same : rest ≡ bytes = cc in (rw h.0 (rw (sym same) k.0), sym same ∙ k.1)
    pick (Ok bytes) false (Ok rest) (Err BadLine) h is k = let same : rest ≡ bytes = cc in rw h.0 (rw (sym same) k)
    pick (Ok bytes) false (Ok rest) (Err OutOfMemory) h is k = tt
    pick (Ok bytes) false (Err fault) new h is k = absurd (cc)
    pick (Err fault) false mid new h is k = pass mid h k
      where
        pass : (mid : Place) → mid ≡ Err fault → takes others v mid x new → new ≡ Err fault
        pass (Ok rest) e k = absurd (cc)
        pass (Err before) e k = k ∙ e

-- a part whose number is out of range
pub out_of_range : {X Y : Type 0} {part : Reads X} (others : X → Reads Y) {w v : List ℕ} {old mid new : Place} {x : X} {y : Y}
    → Takes part w old x mid → ((bytes : List ℕ) → others x bytes ≡ None) → new ≡ failed BadLine mid → Takes (part >>= others) v old y new
out_of_range {X} {Y} {part} others {w} {v} {old} {mid} {new} {x} {y} one none is = rw is (record { is = pick old mid one.is })
  where
    pick : (old mid : Place) → takes part w old x mid → takes (part >>= others) v old y (failed BadLine mid)
    pick (Ok bytes) (Ok rest) h = rw h.0 (none rest)
    pick (Ok bytes) (Err BadLine) h = rw h refl
    pick (Ok bytes) (Err OutOfMemory) h = tt
    pick (Err fault) (Ok rest) h = absurd (cc)
    pick (Err fault) (Err before) h = h

-- what stands behind a word, told with the word
pub behind_word : {X : Type 0} {part : Reads X} {word v w : List ℕ} {old new : Place} {x : X} → Takes part v old x new → word ++ v ≡ w → TakesBehind word part w old x new
behind_word {X} {part} {word} {v} one e = record { others = v; same = λ _. e; taken = one }

-- the line is bad here
pub bad : {X : Type 0} {part : Reads X} {v : List ℕ} {old new : Place} {x : X} → ((bytes : List ℕ) → part bytes ≡ None) → new ≡ failed BadLine old → Takes part v old x new
bad {X} {part} {v} {old} {new} {x} none is = rw is (record { is = pick old })
  where
    pick : (old : Place) → takes part v old x (failed BadLine old)
    pick (Ok bytes) = none bytes
    pick (Err fault) = refl

failed_ends : (fault : LineRefusal) (p : Place) → IsOk (failed fault p) → ⊥
failed_ends fault (Ok bytes) h = absurd (cc)
failed_ends fault (Err before) h = absurd (cc)

pub ends : (fault : LineRefusal) (p : Place) {new : Place} → new ≡ failed fault p → IsOk new → ⊥
ends fault p {new} e h = failed_ends fault p (rw (sym e) h)
