-- Data files one after another, and why one of them is refused.
use Rattle.std.proofs.Common.{◌≡◌, ◌∙◌, ap, sym, refl, subst, arith, inl, inr, ℕ, suc, ◌<◌, ◌≤◌, ◌+◌, ℤ, List, [], ◌∷◌, ◌++◌, length, map, take, drop, get_or, Ok, Err, Bor}
use Rattle.std.proofs.Math.Path.{fun_ext}
use Rattle.std.proofs.Math.Seq.{take-suc, drop-cons}
use Rattle.std.proofs.lemmas.List.{take-append-drop, length-take-le, length-map, get_or-map}
use Rattle.sm_data.specs.declared.refusal.Counted.{Counted}
use Rattle.sm_data.specs.declared.refusal.Counted.TheVariants as counted
use Rattle.sm_data.specs.declared.refusal.DataRefusal.{DataRefusal}
use Rattle.sm_data.specs.declared.refusal.DataRefusal.TheVariants as refused
use Rattle.sm_data.specs.Documents.{Entry}
use Rattle.sm_data.specs.Files.{FileComesTo, Answers}
use Rattle.sm_syntax.specs.Trees.{Tree}
use Rattle.sm_loading.specs.declared.refusal.LoadRefusal.{LoadRefusal}
use Rattle.sm_loading.specs.declared.refusal.LoadRefusal.TheVariants.{ReadFault, Limit, Syntax, Data, OutOfMemory}
use Rattle.sm_loading.specs.Loading.{Held, IsRead, AreRead, IsModelOf, IsAdded, TablesComeTo, LeaveTables, Reaches, IsLoaded, IsLimitCause, IsLoadCause, IsReadingCause, told_of}
use Rattle.sm_loading.proofs.EntryLimits.{entry_limit}

-- ---- what is read later is told of the same files

cause_later : (held : Held) (model : List ℕ) (files : List (List ℕ)) (a b c : ℕ) (r : LoadRefusal) → a ≤ b → IsLoadCause held model files b c r → IsLoadCause held model files a c r
cause_later held model files a b c ReadFault le rose = omega arith
cause_later held model files a b c (Limit what found bound) le cause = cause
cause_later held model files a b c (Syntax line column) le cause = cause
cause_later held model files a b c (Data file kind) le cause = cause
cause_later held model files a b c OutOfMemory le cause = tt

pub cause_moved : (held now : Held) (model : List ℕ) (files : List (List ℕ)) (a b c : ℕ) (r : LoadRefusal) → ((q : List ℕ) → now q ≡ held q) → a ≤ b → IsLoadCause now model files b c r → IsLoadCause held model files a c r
cause_moved held now model files a b c r same le cause =
    let moved : IsLoadCause held model files b c r = subst (λ (h : Held). IsLoadCause h model files b c r) (fun_ext same) cause in
    cause_later held model files a b c r le moved

-- ---- one file

-- why the model file isn't read
pub model_cause : (held : Held) (model : List ℕ) (files : List (List ℕ)) (before now : ℕ) (r : LoadRefusal) → IsReadingCause held model before now r → IsLoadCause held model files before now r
model_cause held model files before now ReadFault rose = rose
model_cause held model files before now (Limit counted.File found bound) (tells, long) = (tells, inl long)
model_cause held model files before now (Limit _ found bound) cause = absurd cause
model_cause held model files before now (Syntax line column) cause = absurd cause
model_cause held model files before now (Data file kind) cause = absurd cause
model_cause held model files before now OutOfMemory cause = tt

-- why the data file that loading comes to isn't read
pub reading_cause : (held : Held) (model name : List ℕ) (files : List (List ℕ)) (number : ℕ) (known : List Entry) (before now : ℕ) (r : LoadRefusal) → Reaches held model files name number known → IsReadingCause held name before now r → IsLoadCause held model files before now r
reading_cause held model name files number known before now ReadFault reaches rose = rose
reading_cause held model name files number known before now (Limit counted.File found bound) reaches (tells, long) =
    (tells, inr (record { name = name; number = number; known = known; reaches = reaches; long = long }))
reading_cause held model name files number known before now (Limit _ found bound) reaches cause = absurd cause
reading_cause held model name files number known before now (Syntax line column) reaches cause = absurd cause
reading_cause held model name files number known before now (Data file kind) reaches cause = absurd cause
reading_cause held model name files number known before now OutOfMemory reaches cause = tt

entry_cause : (held : Held) (model name : List ℕ) (files : List (List ℕ)) (number : ℕ) (known : List Entry) (bytes : List ℕ) (what : Counted) (found bound : ℤ) → what ≡ counted.Entry → Reaches held model files name number known → IsRead held name bytes
    → FileComesTo name bytes known (Err (refused.Limit what found bound)) → IsLimitCause held model files found bound what
entry_cause held model name files number known bytes what found bound is reaches read come =
    let there : FileComesTo name bytes known (Err (refused.Limit counted.Entry found bound)) = subst (λ (w : Counted). FileComesTo name bytes known (Err (refused.Limit w found bound))) is come in
    subst (λ (w : Counted). IsLimitCause held model files found bound w) (sym is)
    (number, record { name = name; known = known; reaches = reaches; refused = record { bytes = bytes; read = read; holds = there } })

-- why the data file that loading comes to isn't added
pub data_cause : (held : Held) (model name : List ℕ) (files : List (List ℕ)) (number : ℕ) (known after : List Entry) (bytes : List ℕ) (before now : ℕ) (r : DataRefusal) → Reaches held model files name number known → IsRead held name bytes
    → Answers {X = Unit {0}} (FileComesTo name bytes known) after (Err r) → IsLoadCause held model files before now (told_of number r)
data_cause held model name files number known after bytes before now (refused.BadData c) reaches read come =
    record { name = name; known = known; reaches = reaches; refused = record { bytes = bytes; read = read; holds = come } }
data_cause held model name files number known after bytes before now (refused.Limit what found bound) reaches read come =
    entry_cause held model name files number known bytes what found bound (entry_limit name bytes known what found bound come) reaches read come
data_cause held model name files number known after bytes before now refused.OutOfMemory reaches read come = tt

-- ---- one file after another

are_read : (held : Held) (names contents : List (List ℕ)) (name bytes : List ℕ) → AreRead held names contents → IsRead held name bytes → AreRead held (names ++ name ∷ []) (contents ++ bytes ∷ [])
are_read held [] [] name bytes read last = (last, tt)
are_read held [] (c ∷ cs) name bytes read last = absurd read
are_read held (n ∷ ns) [] name bytes read last = absurd read
are_read held (n ∷ ns) (c ∷ cs) name bytes read last = (read.0, are_read held ns cs name bytes read.1 last)

come_on : (names contents : List (List ℕ)) (name bytes : List ℕ) (known tables next : List Entry) → TablesComeTo names contents known tables → FileComesTo name bytes tables (Ok next) → TablesComeTo (names ++ name ∷ []) (contents ++ bytes ∷ []) known next
come_on [] [] name bytes known tables next come last = (next, subst (λ (es : List Entry). FileComesTo name bytes es (Ok next)) come last, refl)
come_on [] (c ∷ cs) name bytes known tables next come last = absurd come
come_on (n ∷ ns) [] name bytes known tables next come last = absurd come
come_on (n ∷ ns) (c ∷ cs) name bytes known tables next (step, first, rest) last = (step, first, come_on ns cs name bytes step tables next rest last)

leave_more : (held : Held) (names : List (List ℕ)) (name : List ℕ) (tables next : List Entry) → LeaveTables held names tables → IsAdded held name tables next → LeaveTables held (names ++ name ∷ []) next
leave_more held names name tables next left added = record {
  contents = left.contents ++ added.bytes ∷ [];
  read = are_read held names left.contents name added.bytes left.read added.read;
  leave = come_on names left.contents name added.bytes [] tables next left.leave added.holds;
}

-- ---- the data files so far

-- the data files before this number leave these tables, and the shelf holds what it held
pub record IsPast (held now : Held) (files : List (List ℕ)) (number : ℕ) (tables : List Entry) (before faults : ℕ) : Type 0 where
  pub left : LeaveTables held (take number files) tables
  pub same : (q : List ℕ) → now q ≡ held q
  pub later : before ≤ faults

pub none_past : (held : Held) (files : List (List ℕ)) (faults : ℕ) → IsPast held held files 0 [] faults faults
none_past held files faults = record { left = record { contents = []; read = tt; leave = refl }; same = λ q. refl; later = omega arith }

-- loading comes to the next one
pub reaches_next : (held : Held) (model : List ℕ) (whole : Tree) (files : List (List ℕ)) (number : ℕ) (name : List ℕ) (known : List Entry) → IsModelOf held model whole → LeaveTables held (take number files) known
    → number < length files → get_or files number [] ≡ name → Reaches held model files name number known
reaches_next held model whole files number name known has_tree left lt is = record {
  whole = whole;
  has_tree = has_tree;
  before = take number files;
  later = drop (suc number) files;
  split = sym (take-append-drop number files) ∙ ap (λ (rest : List (List ℕ)). take number files ++ rest) (drop-cons files number [] lt ∙ ap (λ (n : List ℕ). n ∷ drop (suc number) files) is);
  count = sym (length-take-le number files (omega (arith, lt)));
  left = left;
}

-- and goes past it
pub past_next : (held mid now : Held) (files : List (List ℕ)) (number : ℕ) (name : List ℕ) (tables next : List Entry) (a b c : ℕ) → IsPast held mid files number tables a b → number < length files → get_or files number [] ≡ name
    → IsAdded mid name tables next → ((q : List ℕ) → now q ≡ mid q) → b ≤ c → IsPast held now files (number + 1) next a c
past_next held mid now files number name tables next a b c past lt is added same later =
    let here : IsAdded held name tables next = subst (λ (h : Held). IsAdded h name tables next) (fun_ext past.same) added in
    let one : number + 1 ≡ suc number = omega arith in
    let longer : take (number + 1) files ≡ take number files ++ name ∷ [] = ap (λ (n : ℕ). take n files) one ∙ take-suc files number [] lt ∙ ap (λ (n : List ℕ). take number files ++ n ∷ []) is in
    record {
      left = subst (λ (ns : List (List ℕ)). LeaveTables held ns next) (sym longer) (leave_more held (take number files) name tables next past.left here);
      same = λ q. same q ∙ past.same q;
      later = omega (arith, past.later, later);
    }

-- the number is that of a name
pub name_there : (files : List (Bor (List ℕ))) (number : ℕ) (none : Bor (List ℕ)) → number < length files → (number < length (map (λ f. f.now) files)) × (get_or (map (λ f. f.now) files) number [] ≡ (get_or files number none).now)
name_there files number none lt =
    let count : length (map (λ (f : Bor (List ℕ)). f.now) files) ≡ length files = length-map files (λ f. f.now) in
    (omega (arith, lt, count), get_or-map (λ f. f.now) files number none [] lt)

-- the next one is refused
pub past_cause : (held mid : Held) (model : List ℕ) (whole : Tree) (files : List (List ℕ)) (number : ℕ) (name : List ℕ) (tables : List Entry) (a b c : ℕ) (r : LoadRefusal) → IsModelOf held model whole → IsPast held mid files number tables a b
    → number < length files → get_or files number [] ≡ name → (Reaches mid model files name number tables → IsLoadCause mid model files b c r) → IsLoadCause held model files a c r
past_cause held mid model whole files number name tables a b c r has_tree past lt is cause =
    let reaches : Reaches held model files name number tables = reaches_next held model whole files number name tables has_tree past.left lt is in
    let there : Reaches mid model files name number tables = subst (λ (h : Held). Reaches h model files name number tables) (sym (fun_ext past.same)) reaches in
    cause_moved held mid model files a b c r past.same past.later (cause there)

-- ---- all of them

-- what is refused behind the model file
pub cause_behind : (held mid : Held) (model : List ℕ) (whole : Tree) (files : List (List ℕ)) (a b c : ℕ) (r : LoadRefusal) → IsModelOf held model whole → ((q : List ℕ) → mid q ≡ held q) → a ≤ b
    → ((m : List ℕ) (t : Tree) → IsModelOf mid m t → IsLoadCause mid m files b c r) → IsLoadCause held model files a c r
cause_behind held mid model whole files a b c r has_tree same le cause =
    let there : IsModelOf mid model whole = subst (λ (h : Held). IsModelOf h model whole) (sym (fun_ext same)) has_tree in
    cause_moved held mid model files a b c r same le (cause model whole there)

pub loaded_behind : (held mid : Held) (model : List ℕ) (whole : Tree) (files : List (List ℕ)) (tables : List Entry) → length files ≤ 64 → IsModelOf held model whole → ((q : List ℕ) → mid q ≡ held q)
    → LeaveTables mid files tables → IsLoaded held model files whole tables
loaded_behind held mid model whole files tables few has_tree same left = record {
  few = few;
  has_tree = has_tree;
  left = subst (λ (h : Held). LeaveTables h files tables) (fun_ext same) left;
}
