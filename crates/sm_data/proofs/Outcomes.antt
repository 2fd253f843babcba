-- A file comes to one outcome.
use Rattle.std.proofs.Common.{◌≡◌, ◌≢◌, ◌∙◌, ap, ap₂, sym, refl, subst, arith, ◌⊎◌, inl, inr, ℕ, zero, suc, ◌<◌, ◌^◌, ℤ, pos, negsuc, Bool, true, false, List, [], ◌∷◌, ◌++◌, length, Option, Some, None, Result, Ok, Err, codes}
use Rattle.std.specs.List.{AllByRecursion}
use Rattle.std.specs.Str.{bytes_eq}
use Rattle.std.proofs.lemmas.Option.{same_Some}
use Rattle.std.proofs.lemmas.Slice.Eq.{bytes_eq-Decides}
use Rattle.csv.specs.Machine.{Read, next_record}
use Rattle.csv.specs.Reading.{AreRecords, Reached, default_config, strip_bom}
use Rattle.csv.specs.declared.parser.Config.{Config}
use Rattle.csv.specs.declared.parser.State.{State}
use Rattle.csv.specs.declared.parser.State.TheVariants as st
use Rattle.sm_base.specs.Whole.{whole_text}
use Rattle.sm_data.specs.Paths.{file_name, stem_of}
use Rattle.sm_data.specs.Documents.{Entry, entries_with}
use Rattle.sm_data.specs.Records.{Fields, HaveWidth, AreRows, AreUneven, HasReading, HaveReadings, RowsHaveReadings}
use Rattle.sm_data.specs.Files.{DocumentComesTo, RowsComeTo, RecordsComeTo, NamedComesTo, EndingComesTo, FileComesTo, Answers, told_by}
use Rattle.sm_data.specs.declared.refusal.DataRefusal.{DataRefusal}
use Rattle.sm_data.specs.declared.refusal.DataRefusal.TheVariants as refusal

-- ---- each text has a reading

-- the text is one of the first n that f lists, or none of them
among : (text : List ℕ) (f : ℕ → List ℕ) (n : ℕ) → ((k : ℕ) × (k < n) × (text ≡ f k)) ⊎ ((k : ℕ) → k < n → text ≡ f k → ⊥)
among text f zero = inr (λ k lt e. absurd (omega arith))
among text f (suc n) = elim (among text f n) [
  | inl h ↦ inl (h.0, omega (arith, h.1), h.2)
  | inr none ↦ last (bytes_eq text (f n)) refl none
]
  where
    above : (k : ℕ) → k < suc n → (k < n → ⊥) → k ≡ n
    above k lt other = elim (parted k) [
      | inl below ↦ absurd (other below)
      | inr past ↦ omega arith
    ]
      where
        parted : (i : ℕ) → (i < n) ⊎ (n < suc i)
        parted i = grind arith

    last : (b : Bool) → bytes_eq text (f n) ≡ b → ((k : ℕ) → k < n → text ≡ f k → ⊥)
        → ((k : ℕ) × (k < suc n) × (text ≡ f k)) ⊎ ((k : ℕ) → k < suc n → text ≡ f k → ⊥)
    last true e none = inl (n, omega arith, (bytes_eq-Decides text (f n)).0 e)
    last false e none = inr (λ k lt is.
        let here : k ≡ n = above k lt (λ below. none k below is) in
        let same : bytes_eq text (f n) ≡ true = (bytes_eq-Decides text (f n)).1 (is ∙ ap f here) in
        cc)

has_reading : (text : List ℕ) → (r : Option ℤ) × HasReading text r
has_reading text = elim (among text (λ n. whole_text (pos n)) (2 ^ 127)) [
  | inl up ↦ (Some (pos up.0), (omega (arith, up.1), up.2))
  | inr no_up ↦ elim (among text (λ n. whole_text (negsuc n)) (2 ^ 127)) [
    | inl down ↦ (Some (negsuc down.0), (omega (arith, down.1), down.2))
    | inr no_down ↦ (None, neither no_up no_down)
  ]
]
  where
    neither : ((n : ℕ) → n < 2 ^ 127 → text ≡ whole_text (pos n) → ⊥) → ((n : ℕ) → n < 2 ^ 127 → text ≡ whole_text (negsuc n) → ⊥) → HasReading text None
    neither up down (pos n) fits is = up n (omega (arith, fits)) is
    neither up down (negsuc n) fits is = down n (omega (arith, fits)) is

have_readings : (fs : Fields) → (rs : List (Option ℤ)) × HaveReadings fs rs
have_readings [] = ([], tt)
have_readings (f ∷ fs) = let one = has_reading f in let more = have_readings fs in (one.0 ∷ more.0, (one.1, more.1))

rows_have_readings : (rows : List Fields) → (rss : List (List (Option ℤ))) × RowsHaveReadings rows rss
rows_have_readings [] = ([], tt)
rows_have_readings (f ∷ fs) = let one = have_readings f in let more = rows_have_readings fs in (one.0 ∷ more.0, (one.1, more.1))

-- ---- a text has one list of records

-- behind the last record there is none
ended : (cfg : Config) (s : State) (xs : List ℕ) → AreRecords cfg s xs [] → next_record cfg s [] [] xs ≡ None
unfolding Reached
ended cfg s xs a = rw (a.2.0, a.2.1) a.3

-- the records that were reached stand in front of all
front_of : (cfg : Config) (s : State) (xs : List ℕ) (front rows : List Fields) (t : State) (ys : List ℕ) → Reached cfg s xs front t ys → AreRecords cfg s xs rows
    → (more : List Fields) × (rows ≡ front ++ more)
unfolding Reached
front_of cfg s xs [] rows t ys h a = (rows, refl)
front_of cfg s xs (f ∷ fs) [] t ys h a = let gone = ended cfg s xs a in let here = h.1 in cc
front_of cfg s xs (f ∷ fs) (r ∷ rs) t ys h a =
    let same : h.0 ≡ a.2.0 = same_Some h.0 a.2.0 (sym h.1 ∙ a.2.1) in
    let more = front_of cfg a.2.0.1 a.2.0.2 fs rs t ys (subst (λ (p : Read). Reached cfg p.1 p.2 fs t ys) same h.3) (a.0, a.1, a.2.3, a.3) in
    (more.0, ap₂ (λ (q : Fields) (qs : List Fields). q ∷ qs) (a.2.2 ∙ ap (λ (p : Read). p.0) (sym same) ∙ sym h.2) more.1)

same_records : (cfg : Config) (s : State) (xs : List ℕ) (rows others : List Fields) → AreRecords cfg s xs rows → AreRecords cfg s xs others → rows ≡ others
unfolding Reached
same_records cfg s xs [] [] a b = refl
same_records cfg s xs [] (r ∷ rs) a b = let gone = ended cfg s xs a in let here = b.2.1 in cc
same_records cfg s xs (r ∷ rs) [] a b = let gone = ended cfg s xs b in let here = a.2.1 in cc
same_records cfg s xs (r ∷ rs) (q ∷ qs) a b =
    let same : b.2.0 ≡ a.2.0 = same_Some b.2.0 a.2.0 (sym b.2.1 ∙ a.2.1) in
    ap₂ (λ (x : Fields) (ys : List Fields). x ∷ ys) (a.2.2 ∙ ap (λ (p : Read). p.0) (sym same) ∙ sym b.2.2)
    (same_records cfg a.2.0.1 a.2.0.2 rs qs (a.0, a.1, a.2.3, a.3) (subst (λ (p : Read). AreRecords cfg p.1 p.2 qs) same (b.0, b.1, b.2.3, b.3)))

-- rows of one length have no other length among them
even_last : (first last : Fields) (between more : List Fields) (width : Option ℕ) → HaveWidth (((first ∷ between) ++ last ∷ []) ++ more) width → length last ≡ length first
even_last first last between more width h = within between h.1
  where
    within : (bs : List Fields) → AllByRecursion (λ x. length x ≡ length first) ((bs ++ last ∷ []) ++ more) → length last ≡ length first
    within [] k = k.0
    within (b ∷ bs) k = within bs k.1

not_both : (bytes : List ℕ) (rows : List Fields) → AreUneven bytes → AreRows bytes rows → ⊥
not_both bytes rows u a =
    let more = front_of default_config st.StartRecord (strip_bom bytes) ((u.first ∷ u.between) ++ u.last ∷ []) rows u.state u.rest u.reached a.records in
    u.lengths (sym (even_last u.first u.last u.between more.0 a.width (subst (λ (rs : List Fields). HaveWidth rs a.width) more.1 a.even)))

-- ---- and a file one outcome

module _ (known : List Entry) (f g : Result (List Entry) DataRefusal) where
  one_of_document : (bytes : List ℕ) → DocumentComesTo bytes known f → DocumentComesTo bytes known g → f ≡ g
  one_of_document bytes x y = elim x [
    | inl a ↦ elim y [
      | inl b ↦ a.0 ∙ sym b.0
      | inr b ↦ absurd (a.1 b.0 b.1)
    ]
    | inr a ↦ elim y [
      | inl b ↦ absurd (b.1 a.0 a.1)
      | inr b ↦ a.2 ∙ ap (entries_with known) (same_Some a.0 b.0 (sym a.1.members ∙ b.1.members)) ∙ sym b.2
    ]
  ]

  one_of_rows : (name : List ℕ) (rows : List Fields) → RowsComeTo name rows known f → RowsComeTo name rows known g → f ≡ g
  one_of_rows name rows x y = let reads = rows_have_readings rows in x reads.0 reads.1 ∙ sym (y reads.0 reads.1)

  one_of_records : (name bytes : List ℕ) → RecordsComeTo name bytes known f → RecordsComeTo name bytes known g → f ≡ g
  one_of_records name bytes x y = elim x [
    | inl a ↦ elim y [
      | inl b ↦ a.0 ∙ sym b.0
      | inr b ↦ absurd (not_both bytes b.0 a.1 b.1)
    ]
    | inr a ↦ elim y [
      | inl b ↦ absurd (not_both bytes a.0 b.1 a.1)
      | inr b ↦
          let same : b.0 ≡ a.0 = same_records default_config st.StartRecord (strip_bom bytes) b.0 a.0 b.1.records a.1.records in
          one_of_rows name a.0 a.2 (subst (λ (rs : List Fields). RowsComeTo name rs known g) same b.2)
    ]
  ]

  one_of_named : (named doubled : Bool) (name bytes : List ℕ) → NamedComesTo named doubled name bytes known f → NamedComesTo named doubled name bytes known g → f ≡ g
  one_of_named false doubled name bytes x y = x ∙ sym y
  one_of_named true true name bytes x y = x ∙ sym y
  one_of_named true false name bytes x y = one_of_records name bytes x y

  one_of_ending : (toml csv : Option (List ℕ)) (bytes : List ℕ) → EndingComesTo toml csv bytes known f → EndingComesTo toml csv bytes known g → f ≡ g
  one_of_ending (Some stem) csv bytes x y = one_of_document bytes x y
  one_of_ending None (Some stem) bytes x y = one_of_named _ _ stem bytes x y
  one_of_ending None None bytes x y = x ∙ sym y

  pub one_of_file : (path bytes : List ℕ) → FileComesTo path bytes known f → FileComesTo path bytes known g → f ≡ g
  one_of_file path bytes x y = one_of_ending (stem_of (codes ".toml") (file_name path)) (stem_of (codes ".csv") (file_name path)) bytes x y

-- what a call tells that had the memory is what it answers
pub told-Answers : {X A : Type 0} (P : Result A DataRefusal → Type 0) (after : A) (r : Result X DataRefusal) → Answers P after r → r ≢ Err refusal.OutOfMemory → P (told_by after r)
told-Answers P after (Ok x) h other = h
told-Answers P after (Err (refusal.BadData c)) h other = h
told-Answers P after (Err (refusal.Limit what number bound)) h other = h
told-Answers P after (Err refusal.OutOfMemory) h other = absurd (other refl)
