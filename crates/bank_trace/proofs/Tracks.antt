-- A routine's instructions cost the selects of the frame's bank and of the page once, as long as no label stands among them.
use Rattle.std.proofs.Common.{◌≡◌, ℕ, zero, suc, ◌+◌, ◌≤◌, Bool, true, false, not, ◌&&◌, ◌||◌, if◌then◌else◌, List, [], ◌∷◌, ◌++◌, length, take, drop, take-append-drop, Option, Some, refl, sym, ap, ◌∙◌, subst, arith}
use Rattle.pic_map.specs.declared.Placed.{Placed}
use Rattle.sym_code.specs.Selects.{is_select}
use Rattle.sym_code.specs.declared.code.BlockName.{BlockName}
use Rattle.sym_code.specs.declared.code.Sym.{Sym}
use Rattle.sym_code.specs.declared.code.Sym.TheVariants as syms
use Rattle.math_helpers.specs.Shape.{accesses_frame, jumps, words_from, most_words, is_straight, sum_from}
use Rattle.bank_page.specs.Kinds.{is_label, is_skip}
use Rattle.bank_page.specs.Known.{after, ends}
use Rattle.bank_page.specs.Links.{price_from}
use Rattle.bank_page.specs.Needs.{needs_in}
use Rattle.bank_page.specs.Step.{missing_for, known_with, state_of, selected_from}
use Rattle.bank_page.specs.declared.known.Known.{Known}
use Rattle.bank_page.specs.declared.needs.Needs.{Needs}
use Rattle.bank_page.specs.declared.selecting.State.{State}
use Rattle.bank_trace.proofs.Puts.{never, count_of, count, after_one, priced_first, priced_later, sum_same, sum_shift}
use Rattle.bank_trace.proofs.Straight.{has_none, none_first, none_later, straight_once, straight_first, straight_later}
use Rattle.bank_trace.proofs.Dear.{behind_is, sum_later, nothing_taken}
use Rattle.bank_trace.proofs.Tight.{label_first, is_tight}
use Rattle.bank_trace.proofs.Owned.{IsTame, AllTame, FitsPage}
use Rattle.bank_trace.proofs.Meets.{FitsBank, Meets, meets_none, meets_after, few_missing, meets_with}
use Rattle.bank_trace.proofs.Chained.{acc, jmp, Needed, straight_needs, needs_fit, later_needs, acc_front, jmp_front, words_step}
use Rattle.bank_trace.proofs.Early.{paid_step, early}

-- what a run of skips needs that was begun is selected
abbrev pub IsPaid : Bool → Bool → Bool → List Sym → Type 0
IsPaid behind bank page list = behind ≡ true → (acc list ≡ true → bank ≡ true) × (jmp list ≡ true → page ≡ true)

tight_first : (behind : Bool) (s : Sym) (rest : List Sym) → is_tight behind (s ∷ rest) ≡ true → (ends s && not behind) ≡ true → label_first rest ≡ true
tight_first behind s rest e h = by_parts (ends s && not behind) (is_tight (is_skip s) rest) e h
  where
    by_parts : (a b : Bool) → ((if a then label_first rest else true) && b) ≡ true → a ≡ true → label_first rest ≡ true
    by_parts true b e h = first (label_first rest) b e
      where
        first : (c b : Bool) → (c && b) ≡ true → c ≡ true
        first true b e = refl
        first false b e = e
    by_parts false b e h = never h

tight_later : (behind : Bool) (s : Sym) (rest : List Sym) → is_tight behind (s ∷ rest) ≡ true → is_tight (is_skip s) rest ≡ true
tight_later behind s rest e = later (if ends s && not behind then label_first rest else true) (is_tight (is_skip s) rest) e
  where
    later : (c b : Bool) → (c && b) ≡ true → b ≡ true
    later true b e = e
    later false b e = never e

front_tame : (placed : Placed) (own : BlockName) (n : ℕ) (part rest : List Sym) → AllTame placed own n (part ++ rest) → AllTame placed own n part
front_tame placed own n [] rest h = tt
front_tame placed own n (s ∷ part) rest h = (h.0, front_tame placed own n part rest h.1)

or_last : (a b : Bool) → b ≡ true → (a || b) ≡ true
or_last true b e = refl
or_last false b e = e

module _ (placed : Placed) (own : BlockName) (n : ℕ) where
  abbrev pub sum_of : State → List Sym → List Sym → ℕ
  sum_of st part rest = sum_from (price_from 0 (selected_from placed own st (part ++ rest))) 0 part

  -- an access is one that the run of skips needs
  acc_first : (s : Sym) (rest : List Sym) → accesses_frame s ≡ true → acc (s ∷ rest) ≡ true
  acc_first s rest e = by_skip (is_skip s)
    where
      by_skip : (c : Bool) → (if c then accesses_frame s || acc rest else accesses_frame s) ≡ true
      by_skip true = ap (λ (a : Bool). a || acc rest) e
      by_skip false = e

  jmp_first : (s : Sym) (rest : List Sym) → IsTame placed own n s → jumps s ≡ true → jmp (s ∷ rest) ≡ true
  jmp_first s rest tame e = by_skip (is_skip s) refl
    where
      by_skip : (c : Bool) → is_skip s ≡ c → (if c then jmp rest else jumps s) ≡ true
      by_skip true k = never (sym (tame.skip k).1 ∙ e)
      by_skip false k = e

  acc_later : (s : Sym) (rest : List Sym) → is_skip s ≡ true → acc rest ≡ true → acc (s ∷ rest) ≡ true
  acc_later s rest k e = ap (λ (c : Bool). if c then accesses_frame s || acc rest else accesses_frame s) k ∙ or_last (accesses_frame s) (acc rest) e

  jmp_later : (s : Sym) (rest : List Sym) → is_skip s ≡ true → jmp rest ≡ true → jmp (s ∷ rest) ≡ true
  jmp_later s rest k e = ap (λ (c : Bool). if c then jmp rest else jumps s) k ∙ e

  -- the words behind an instruction whose needs are selected
  paid_words : (bank page : Bool) (s : Sym) (part : List Sym) → IsTame placed own n s → is_label s ≡ false → (acc (s ∷ part) ≡ true → bank ≡ true) → (jmp (s ∷ part) ≡ true → page ≡ true) → words_from bank page (s ∷ part) ≡ 1 + words_from bank page part
  paid_words bank page s part tame label a j =
      words_step bank page s part label
      ∙ paid_step (λ b p. words_from b p part) bank page (accesses_frame s) (jumps s) (λ e. a (acc_first s part e)) (λ e. j (jmp_first s part tame e))

  -- the sum behind one instruction, where it ends nothing
  abbrev Later : Bool → Bool → Sym → List Sym → List Sym → Type 0
  Later bank page s part rest =
      (st : State) → is_tight st.behind (part ++ rest) ≡ true → Meets own n bank page st.known → IsPaid st.behind bank page part → sum_of st part rest ≤ words_from bank page part

  behind_end : (bank page behind : Bool) (known : Known) (st : State) (s : Sym) (part rest : List Sym) → IsTame placed own n s → is_label s ≡ false → is_straight (s ∷ part) ≡ true → is_tight behind (s ∷ part ++ rest) ≡ true
      → st.behind ≡ is_skip s → st.known ≡ after known s behind → Meets own n bank page known → (is_skip s ≡ true → (acc part ≡ true → bank ≡ true) × (jmp part ≡ true → page ≡ true)) → Later bank page s part rest
      → sum_of st part rest ≤ words_from bank page part
  behind_end bank page behind known st s part rest tame label straight tight at is h paid later = by_end (ends s && not behind) refl
    where
      nothing_left : (part : List Sym) → is_straight (s ∷ part) ≡ true → label_first (part ++ rest) ≡ true → sum_of st part rest ≤ words_from bank page part
      nothing_left [] e l = omega arith
      nothing_left (t ∷ part) e l = never (sym (straight_first t part (straight_later s (t ∷ part) e)) ∙ l)

      by_end : (c : Bool) → (ends s && not behind) ≡ c → sum_of st part rest ≤ words_from bank page part
      by_end true e = nothing_left part straight (tight_first behind s (part ++ rest) tight e)
      by_end false e =
          later st (subst (λ (b : Bool). is_tight b (part ++ rest) ≡ true) (sym at) (tight_later behind s (part ++ rest) tight))
          (subst (Meets own n bank page) (sym is) (meets_after placed own n bank page known s behind tame label e h))
          (λ f. paid (sym at ∙ f))

  pub next_known_behind : (k : Known) (s : Sym) (rest : List Sym) (no_select : is_select s ≡ false) → (after_one placed own (record { known = k; behind = true }) s rest no_select).known ≡ after k s true
  next_known_behind k s rest no_select = ap (λ (c : Bool). (state_of c true own (record { known = k; behind = true }) s (needs_in placed (s ∷ rest))).known) no_select

  pub next_known_free : (k : Known) (s : Sym) (rest : List Sym) (no_select : is_select s ≡ false) → is_label s ≡ false → (needs : Needs) → needs_in placed (s ∷ rest) ≡ Some needs
      → (after_one placed own (record { known = k; behind = false }) s rest no_select).known ≡ after (known_with own k needs) s false
  next_known_free k s rest no_select label needs is =
      let st : State = record { known = k; behind = false } in
      ap (λ (c : Bool). (state_of c (is_label s) own st s (needs_in placed (s ∷ rest))).known) no_select
      ∙ ap (λ (c : Bool). (state_of false c own st s (needs_in placed (s ∷ rest))).known) label
      ∙ ap (λ (o : Option Needs). (state_of false false own st s o).known) is

  pub count_free : (k : Known) (s : Sym) (rest : List Sym) (no_select : is_select s ≡ false) → is_label s ≡ false → (needs : Needs) → needs_in placed (s ∷ rest) ≡ Some needs
      → count placed own (record { known = k; behind = false }) s rest no_select ≡ length (missing_for own k needs)
  count_free k s rest no_select label needs is =
      let st : State = record { known = k; behind = false } in
      ap (λ (c : Bool). count_of c own st (needs_in placed (s ∷ rest))) label ∙ ap (count_of false own st) is

  pub next_behind : (st : State) (s : Sym) (rest : List Sym) (no_select : is_select s ≡ false) → (after_one placed own st s rest no_select).behind ≡ is_skip s
  next_behind st s rest no_select = behind_is placed own (is_select s) (st.behind || is_label s) st s (needs_in placed (s ∷ rest)) no_select

  tracks : (part rest : List Sym) (k : Known) (b bank page : Bool) → AllTame placed own n (part ++ rest) → has_none (part ++ rest) ≡ true → is_straight part ≡ true → is_tight b (part ++ rest) ≡ true → Meets own n bank page k → IsPaid b bank page part
      → sum_of (record { known = k; behind = b }) part rest ≤ words_from bank page part
  tracks [] rest k b bank page tame none straight tight h paid = omega arith
  tracks (s ∷ part) rest k true bank page tame none straight tight h paid =
      let st : State = record { known = k; behind = true } in
      let no_select = none_first s (part ++ rest) none in
      let label = straight_first s part straight in
      let next = after_one placed own st s (part ++ rest) no_select in
      let first = priced_first placed own st s (part ++ rest) no_select label (straight_once s part straight) in
      let others = sum_later placed own st s (part ++ rest) part no_select in
      let words = paid_words bank page s part tame.0 label (paid refl).0 (paid refl).1 in
      let later : sum_of next part rest ≤ words_from bank page part =
      behind_end bank page true k next s part rest tame.0 label straight tight (next_behind st s (part ++ rest) no_select) (next_known_behind k s (part ++ rest) no_select) h
      (λ e. ((λ a. (paid refl).0 (acc_later s part e a)), (λ j. (paid refl).1 (jmp_later s part e j))))
      (λ t l m p. tracks part rest t.known t.behind bank page tame.1 (none_later s (part ++ rest) none) (straight_later s part straight) l m p) in
      omega arith
  tracks (s ∷ part) rest k false bank page tame none straight tight h paid =
      let st : State = record { known = k; behind = false } in
      let no_select = none_first s (part ++ rest) none in
      let label = straight_first s part straight in
      let next = after_one placed own st s (part ++ rest) no_select in
      let needed = straight_needs placed own n s part rest tame none straight in
      let a = acc (s ∷ part) in
      let j = jmp (s ∷ part) in
      let fits_bank = subst (λ (c : Bool). FitsBank n c needed.needs.bank) (acc_front s part rest straight) needed.fits.bank in
      let fits_page = subst (λ (c : Bool). FitsPage own c needed.needs.page) (jmp_front s part rest straight) needed.fits.page in
      let few = few_missing own n k needed.needs bank page a j h fits_bank fits_page in
      let number = count_free k s (part ++ rest) no_select label needed.needs needed.is in
      let first = priced_first placed own st s (part ++ rest) no_select label (straight_once s part straight) in
      let others = sum_later placed own st s (part ++ rest) part no_select in
      let all = early placed own n (s ∷ part) (front_tame placed own n (s ∷ part) rest tame) straight bank page in
      let words = paid_words (bank || a) (page || j) s part tame.0 label (λ e. or_last bank a e) (λ e. or_last page j e) in
      let later : sum_of next part rest ≤ words_from (bank || a) (page || j) part =
      behind_end (bank || a) (page || j) false (known_with own k needed.needs) next s part rest tame.0 label straight tight (next_behind st s (part ++ rest) no_select)
      (next_known_free k s (part ++ rest) no_select label needed.needs needed.is)
      (meets_with own n k needed.needs bank page a j h fits_bank fits_page)
      (λ e. ((λ f. or_last bank a (acc_later s part e f)), (λ f. or_last page j (jmp_later s part e f))))
      (λ t l m p. tracks part rest t.known t.behind (bank || a) (page || j) tame.1 (none_later s (part ++ rest) none) (straight_later s part straight) l m p) in
      omega arith

  -- ---- from the front of the routine on
  -- behind a skip what it and the next instructions need is selected
  abbrev pub IsOwed : State → List Sym → Type 0
  IsOwed st list = st.behind ≡ true → (m : Needs) → needs_in placed list ≡ Some m → Meets own n (acc list) (jmp list) st.known

  meets_less : (known : Known) (b p c q : Bool) → (c ≡ true → b ≡ true) → (q ≡ true → p ≡ true) → Meets own n b p known → Meets own n c q known
  meets_less known b p c q f g h = record { bank_known = λ e. h.bank_known (f e); page_known = λ e. h.page_known (g e) }

  skip_label : (s : Sym) → is_skip s ≡ true → is_label s ≡ false
  skip_label (syms.Label label) e = never e
  skip_label s e = refl

  skip_goes : (s : Sym) (b : Bool) → is_skip s ≡ true → (ends s && b) ≡ false
  skip_goes (syms.File op file into) b e = refl
  skip_goes (syms.Bit op file bit) b e = refl
  skip_goes s b e = never e

  owed_by : (k : Known) (b : Bool) (s : Sym) (list : List Sym) → AllTame placed own n (s ∷ list) → has_none (s ∷ list) ≡ true → (no_select : is_select s ≡ false) → is_skip s ≡ true → IsOwed (record { known = k; behind = b }) (s ∷ list)
      → (m : Needs) → needs_in placed list ≡ Some m → Meets own n (acc list) (jmp list) (after_one placed own (record { known = k; behind = b }) s list no_select).known
  owed_by k b s list tame none no_select e owed m is =
      let label = skip_label s e in
      let fits = needs_fit placed own n list m tame.1 (none_later s list none) is in
      let needed = later_needs placed own n s list m tame.0 no_select label e fits is in
      by_behind b owed needed
    where
      less : (known : Known) → Meets own n (acc (s ∷ list)) (jmp (s ∷ list)) known → Meets own n (acc list) (jmp list) known
      less known = meets_less known (acc (s ∷ list)) (jmp (s ∷ list)) (acc list) (jmp list) (acc_later s list e) (jmp_later s list e)

      by_behind : (b : Bool) → IsOwed (record { known = k; behind = b }) (s ∷ list) → Needed placed own n (acc (s ∷ list)) (jmp (s ∷ list)) (needs_in placed (s ∷ list))
          → Meets own n (acc list) (jmp list) (after_one placed own (record { known = k; behind = b }) s list no_select).known
      by_behind true owed needed =
          subst (Meets own n (acc list) (jmp list)) (sym (next_known_behind k s list no_select))
          (meets_after placed own n (acc list) (jmp list) k s true tame.0 (skip_label s e) (skip_goes s false e) (less k (owed refl needed.needs needed.is)))
      by_behind false owed needed =
          let with = known_with own k needed.needs in
          subst (Meets own n (acc list) (jmp list)) (sym (next_known_free k s list no_select (skip_label s e) needed.needs needed.is))
          (meets_after placed own n (acc list) (jmp list) with s false tame.0 (skip_label s e) (skip_goes s true e)
          (less with (meets_with own n k needed.needs false false (acc (s ∷ list)) (jmp (s ∷ list)) (meets_none own n k) needed.fits.bank needed.fits.page)))

  owed_next : (st : State) (s : Sym) (list : List Sym) → AllTame placed own n (s ∷ list) → has_none (s ∷ list) ≡ true → (no_select : is_select s ≡ false) → IsOwed st (s ∷ list) → IsOwed (after_one placed own st s list no_select) list
  owed_next st s list tame none no_select owed e m is = owed_by st.known st.behind s list tame none no_select (sym (next_behind st s list no_select) ∙ e) owed m is

  priced_front : (part rest : List Sym) (k : Known) (b : Bool) → AllTame placed own n (part ++ rest) → has_none (part ++ rest) ≡ true → is_straight part ≡ true → is_tight b (part ++ rest) ≡ true → IsOwed (record { known = k; behind = b }) (part ++ rest)
      → sum_of (record { known = k; behind = b }) part rest ≤ most_words part
  priced_front [] rest k b tame none straight tight owed = omega arith
  priced_front (s ∷ part) rest k false tame none straight tight owed = tracks (s ∷ part) rest k false false false tame none straight tight (meets_none own n k) (λ e. never e)
  priced_front (s ∷ part) rest k true tame none straight tight owed =
      let needed = straight_needs placed own n s part rest tame none straight in
      let met = owed refl needed.needs needed.is in
      let here : Meets own n (acc (s ∷ part)) (jmp (s ∷ part)) k =
      meets_less k (acc (s ∷ part ++ rest)) (jmp (s ∷ part ++ rest)) (acc (s ∷ part)) (jmp (s ∷ part)) (λ e. acc_front s part rest straight ∙ e) (λ e. jmp_front s part rest straight ∙ e) met in
      let sum = tracks (s ∷ part) rest k true (acc (s ∷ part)) (jmp (s ∷ part)) tame none straight tight here (λ e. ((λ f. f), (λ f. f))) in
      let all = early placed own n (s ∷ part) (front_tame placed own n (s ∷ part) rest tame) straight false false in
      omega arith

  no_part : (price : ℕ → ℕ) (i : ℕ) (part : List Sym) → [] ≡ part → sum_from price i part ≤ most_words part
  no_part price i [] e = omega arith
  no_part price i (s ∷ part) e = absurd (cc)

  pub priced_at : (i : ℕ) (list : List Sym) (st : State) → AllTame placed own n list → has_none list ≡ true → is_tight st.behind list ≡ true → IsOwed st list
      → (part : List Sym) → take (length part) (drop i list) ≡ part → is_straight part ≡ true → sum_from (price_from 0 (selected_from placed own st list)) i part ≤ most_words part
  priced_at zero list st tame none tight owed part is e =
      let whole : part ++ drop (length part) list ≡ list = ap (λ (xs : List Sym). xs ++ drop (length part) list) (sym is) ∙ take-append-drop (length part) list in
      let P : List Sym → Type 0 = λ l. AllTame placed own n l → has_none l ≡ true → is_tight st.behind l ≡ true → IsOwed st l → sum_from (price_from 0 (selected_from placed own st l)) 0 part ≤ most_words part in
      subst P whole (λ a c d f. priced_front part (drop (length part) list) st.known st.behind a c e d f) tame none tight owed
  priced_at (suc i) [] st tame none tight owed part is e = no_part (price_from 0 (selected_from placed own st [])) (suc i) part (sym (nothing_taken placed own (length part) [] refl) ∙ is)
  priced_at (suc i) (s ∷ list) st tame none tight owed part is e =
      let no_select = none_first s list none in
      let p = price_from 0 (selected_from placed own st (s ∷ list)) in
      let next = after_one placed own st s list no_select in
      let tight_next : is_tight next.behind list ≡ true = subst (λ (b : Bool). is_tight b list ≡ true) (sym (next_behind st s list no_select)) (tight_later st.behind s list tight) in
      let later = priced_at i list next tame.1 (none_later s list none) tight_next (owed_next st s list tame none no_select owed) part is e in
      let same = sum_shift p i part ∙ sum_same (λ k. p (suc k)) (price_from 0 (selected_from placed own next list)) (priced_later placed own st s list no_select) i part in
      omega arith
