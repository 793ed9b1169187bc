-- The run along the start block: by its instructions in order, behind a jump where the jump leads.
use Rattle.std.proofs.Common.{◌≡◌, ℕ, suc, ◌+◌, ◌%◌, ◌<◌, ◌≤◌, Bool, true, false, List, [], ◌∷◌, ◌++◌, length, take, Option, Some, refl, sym, ap, ◌∙◌, subst, append-nil, append_assoc, true≢false, ⊎_elim, arith}
use Rattle.std.specs.Prelude.{not, ◌&&◌, nat_eq, slice_get, slice_index}
use Rattle.std.proofs.lemmas.Bool.{ne_eqb, cases_lt}
use Rattle.pic_isa.specs.Lookup.{row_of}
use Rattle.pic_isa.specs.declared.Ins.{Ins}
use Rattle.pic_chip.specs.Run as chip
use Rattle.pic_chip.specs.Interrupts.{begun}
use Rattle.pic_chip.specs.Run.{IsStart, moment, takes}
use Rattle.pic_chip.specs.State.{State}
use Rattle.pic_map.specs.declared.Placed.{Placed}
use Rattle.pic_world.specs.Arrivals.{arriving}
use Rattle.sym_code.specs.Effect.{Setting}
use Rattle.sym_code.specs.Programs.{Position, position, block_in, block_of, is_word}
use Rattle.sym_code.specs.Words.{words_in, words_of_one}
use Rattle.sym_code.specs.declared.code.BlockName.{BlockName}
use Rattle.sym_code.specs.declared.code.BlockName.TheVariants.{Start}
use Rattle.sym_code.specs.declared.code.Sym.{Sym}
use Rattle.sym_code.specs.declared.code.SymBlock.{SymBlock}
use Rattle.code_place.specs.Instructions.{known}
use Rattle.code_place.specs.Layouts.{layout_of}
use Rattle.bank_page.specs.Known.{seen_after}
use Rattle.bank_page.specs.Near.{sets_rp1, none_sets_rp1}
use Rattle.bank_page.specs.Selected.{is_right, all_pass, seen}
use Rattle.bank_page.specs.declared.known.Known.{Known}
use Rattle.bank_page.specs.declared.selecting.State.{State as Selecting}
use Rattle.chip_trace.specs.Arriving.{IsAssembled}
use Rattle.chip_trace.proofs.Blocks.{words_append, words_cons, words_behind, get_behind}
use Rattle.chip_trace.proofs.Moments.{moment_ranged}
use Rattle.chip_trace.proofs.Placing.{G, H, place_in}
use Rattle.pic_chip.proofs.Ranges.{IsRanged, raised_ranged}
use Rattle.chip_trace.proofs.Relations.{Ground, Means, page_row}
use Rattle.chip_trace.proofs.Sound.{left_of, right_of}
use Rattle.chip_trace.proofs.Vectors.{is_image}
use Rattle.chip_trace.proofs.StartEarly as moments
use Rattle.chip_trace.proofs.StartEarly.{Early, after_flags}
use Rattle.chip_trace.proofs.StartKnows as selects
use Rattle.chip_trace.specs.Context.{Knows}
use Rattle.chip_trace.specs.Keeping.{file_of, file_in, Touches, TouchesThere}
use Rattle.chip_trace.proofs.StartSteps.{Kind, OfRp0, OfRp1, OfPage, Load, Store, Clear, sym_of, InSize, ins_of, step, touches}
use Rattle.chip_trace.proofs.StartStores.{w_after, ram_after, ram_behind}

-- ---- instructions of these kinds
pub record Fine (placed : Placed) (x : Sym) : Type 0 where
  pub kind : Kind
  pub is : sym_of kind ≡ x
  pub fits : InSize (layout_of placed) kind

abbrev pub AreFine : Placed → List Sym → Type 0
AreFine placed [] = Unit {0}
AreFine placed (x ∷ xs) = Fine placed x × AreFine placed xs

abbrev pub state_behind : Selecting → List Sym → Selecting
state_behind st [] = st
state_behind st (x ∷ xs) = state_behind (seen Start st x) xs

one_word : (kind : Kind) → words_of_one (sym_of kind) ≡ 1
one_word (OfRp0 on) = refl
one_word (OfRp1 on) = refl
one_word (OfPage which target) = refl
one_word (Load v) = refl
one_word (Store n o) = refl
one_word (Clear n o) = refl

a_word : (kind : Kind) → is_word (Some (sym_of kind)) ≡ true
a_word (OfRp0 on) = refl
a_word (OfRp1 on) = refl
a_word (OfPage which target) = refl
a_word (Load v) = refl
a_word (Store n o) = refl
a_word (Clear n o) = refl

-- one of a list none of whose selects sets RP1
sets_not : (pre rest : List Sym) (x : Sym) → none_sets_rp1 (pre ++ x ∷ rest) ≡ true → sets_rp1 x ≡ false
sets_not [] rest x e = by (sets_rp1 x) e
  where
    by : (b : Bool) → (not b && none_sets_rp1 rest) ≡ true → b ≡ false
    by true e = absurd (true≢false (sym e))
    by false e = refl
sets_not (y ∷ pre) rest x e = sets_not pre rest x (right_of (not (sets_rp1 y)) (none_sets_rp1 (pre ++ x ∷ rest)) e)

words_one : (x : Sym) → words_in (x ∷ []) ≡ words_of_one x + words_in []
words_one x = words_cons x []

module _ (blocks : List SymBlock) (at : List ℕ) (placed : Placed) (handler : Option ℕ) (limit : Bool → ℕ) (c : chip.Setting) (start : IsStart c.start) (small : (k : ℕ) → slice_index c.inputs k < 256) where
  abbrev pub g : Setting
  g = G blocks at placed handler c.image c.watch limit

  abbrev pub h : Ground
  h = H blocks at placed handler c.image c.watch limit

  abbrev pub LS : List Sym
  LS = block_in blocks Start

  abbrev pub pages : BlockName → ℕ
  pages = g.page_of

  -- at moment j one of these instructions begins, or a jump, and no interrupt is taken
  pub record Earlier (j : ℕ) : Type 0 where
    pub pc : (moment c j).state.pc < words_in LS
    pub untaken : takes (arriving c.arrivals j) (moment c j) ≡ false
    pub low : none_sets_rp1 LS ≡ true → (moment c j).state.bank < 2
    pub touches : TouchesThere g.program c.image (begun (arriving c.arrivals j) (moment c j).state)

  -- at moment k the run stands behind these instructions, and so much is known
  pub record At (k : ℕ) (pre : List Sym) (κ : Known) (v : ℕ) (bytes : List ℕ) : Type 0 where
    pub s : State
    pub early : Early c k false s
    pub pc : s.pc ≡ words_in pre
    pub count : k ≤ words_in pre
    pub knows : Knows pages κ s
    pub w : s.w ≡ v
    pub ram : s.ram ≡ bytes
    pub past : (j : ℕ) → j < k → (moment c j).met ≡ false
    pub earlier : (j : ℕ) → j < k → Earlier j
    pub level : (j : ℕ) → j ≤ k → (moment c j).state.pushes ≡ (moment c j).state.pops
    -- where no select of the block sets RP1, it and IRP are 0
    pub low : none_sets_rp1 LS ≡ true → s.bank < 2

  module _ (a : IsAssembled blocks at placed handler c.image c.watch g) where
    means : (p : Position) (kind : Kind) (n : Ins) → p.block ≡ Start → Means g h p (sym_of kind) n → n ≡ ins_of a.reaches placed a.laid_out pages c.inputs kind
    means p (OfRp0 on) n b e = e
    means p (OfRp1 on) n b e = e
    means p (OfPage which target) n b e = e ∙ ap (λ z. page_row which (pages (block_of z target))) b
    means p (Load v) n b e = e
    means p (Store m o) n b e = e
    means p (Clear m o) n b e = e

    pub get_at : (pre rest : List Sym) (x : Sym) → LS ≡ pre ++ x ∷ rest → slice_get LS (length pre) ≡ Some x
    get_at pre rest x e =
        let z : length pre ≡ length pre + 0 = omega arith in
        ap (λ (xs : List Sym). slice_get xs (length pre)) e ∙ ap (slice_get (pre ++ x ∷ rest)) z ∙ get_behind pre (x ∷ rest) 0

    pub take_words : (pre rest : List Sym) → LS ≡ pre ++ rest → words_in (take (length pre) LS) ≡ words_in pre
    take_words pre rest e =
        let z : length pre ≡ length pre + 0 = omega arith in
        let w = words_behind pre rest 0 in
        let n : words_in [] ≡ 0 = refl in
        ap (λ (xs : List Sym). words_in (take (length pre) xs)) e ∙ ap (λ k. words_in (take k (pre ++ rest))) z ∙ (omega arith)

    code : (pre rest : List Sym) (kind : Kind) → LS ≡ pre ++ sym_of kind ∷ rest → row_of (slice_index c.image (words_in pre)) ≡ Some (ins_of a.reaches placed a.laid_out pages c.inputs kind)
    code pre rest kind e =
        let p = position Start (length pre) in
        let q = (is_image blocks at placed handler c.image c.watch limit a c.inputs small).placed.code p (sym_of kind) (get_at pre rest (sym_of kind) e) (a_word kind) in
        let pl : place_in blocks at placed handler c.image c.watch limit p ≡ words_in pre = ap (λ v. known v + words_in (take (length pre) LS)) a.starts ∙ (let y : 0 + words_in (take (length pre) LS) ≡ words_in (take (length pre) LS) = omega arith in y) ∙ take_words pre (sym_of kind ∷ rest) e in
        ap (λ z. row_of (slice_index c.image z)) (sym pl) ∙ q.1 ∙ ap Some (means p kind q.0 refl q.2)

    -- ---- one instruction
    module _ (main_behind : words_in LS ≤ c.watch.main) (short : words_in LS ≤ 2048) where
      ranged : (k : ℕ) (s : State) → (moment c k).state ≡ s → IsRanged s
      ranged k s e = subst IsRanged e (moment_ranged c start small k)

      not_yet : (k : ℕ) (s : State) (m : Bool) → Early c k m s → s.pc < words_in LS → m ≡ nat_eq s.pc c.watch.main → Early c k false s
      not_yet k s m e lt is = subst (λ b. Early c k b s) (is ∙ ne_eqb s.pc c.watch.main (λ q. omega arith)) e

      pub past_on : (k : ℕ) → ((j : ℕ) → j < k → (moment c j).met ≡ false) → (moment c k).met ≡ false → (j : ℕ) → j < suc k → (moment c j).met ≡ false
      past_on k past now j lt = ⊎_elim (past j) (λ ge. let q : k ≡ j = omega arith in subst (λ z. (moment c z).met ≡ false) q now) (cases_lt j k)

      pub earlier_on : (k : ℕ) → ((j : ℕ) → j < k → Earlier j) → Earlier k → (j : ℕ) → j < suc k → Earlier j
      earlier_on k before now j lt = ⊎_elim (before j) (λ ge. let q : k ≡ j = omega arith in subst Earlier q now) (cases_lt j k)

      -- the instruction that begins here, whose operand leads to what it may touch
      pub now_earlier : (k : ℕ) (pre : List Sym) (κ : Known) (w : ℕ) (ram : List ℕ) (n : Ins) (x : At k pre κ w ram) → words_in pre < words_in LS → row_of (slice_index c.image (words_in pre)) ≡ Some n
          → ((f : ℕ) → file_of n ≡ Some f → Touches g.program f (after_flags c k x.s)) → Earlier k
      now_earlier k pre κ w ram n x lt row touched =
          let e = x.early.state in
          let pc : (moment c k).state.pc ≡ words_in pre = ap (λ (z : State). z.pc) e ∙ x.pc in
          record {
            pc = omega arith;
            untaken = moments.untaken c k x.s x.early;
            low = λ none. subst (λ (z : State). z.bank < 2) (sym e) (x.low none);
            touches = subst (TouchesThere g.program c.image) (sym (moments.begun_is c k x.s x.early))
                (λ f q. touched f (sym (ap file_in (ap (λ z. row_of (slice_index c.image z)) x.pc ∙ row)) ∙ q));
          }

      pub level_on : (k : ℕ) → ((j : ℕ) → j ≤ k → (moment c j).state.pushes ≡ (moment c j).state.pops) → (moment c (suc k)).state.pushes ≡ (moment c (suc k)).state.pops → (j : ℕ) → j ≤ suc k → (moment c j).state.pushes ≡ (moment c j).state.pops
      level_on k level now j le = ⊎_elim (λ lt. level j (omega arith)) (λ ge. let q : suc k ≡ j = omega arith in subst (λ z. (moment c z).state.pushes ≡ (moment c z).state.pops) q now) (cases_lt j (suc k))

      one : (k : ℕ) (pre : List Sym) (κ : Known) (behind : Bool) (w : ℕ) (ram : List ℕ) (rest : List Sym) (kind : Kind) → At k pre κ w ram → InSize (layout_of placed) kind → LS ≡ pre ++ sym_of kind ∷ rest → is_right placed Start κ (sym_of kind) ≡ true
          → words_in pre + 1 < words_in LS → At (suc k) (pre ++ sym_of kind ∷ []) (seen_after Start κ (sym_of kind) behind) (w_after (layout_of placed) (sym_of kind) w) (ram_after (layout_of placed) (sym_of kind) w ram)
      one k pre κ behind w ram rest kind x fits e right lt =
          let s0 = x.s in
          let s1 = after_flags c k s0 in
          let r1 = raised_ranged c.inputs small s0 (ranged k s0 x.early.state) (arriving c.arrivals k) in
          let k1 = selects.kept pages κ s0 s1 x.knows refl refl in
          let st = step a.reaches placed a.laid_out pages c.inputs κ behind s1 r1 k1 kind fits right in
          let row = ap (λ z. row_of (slice_index c.image z)) x.pc ∙ code pre rest kind e in
          let y = moments.on c k s0 st.t (ins_of a.reaches placed a.laid_out pages c.inputs kind) x.early row st.goes st.control in
          let p = st.pc in let p0 = x.pc in
          let to : st.t.pc ≡ words_in pre + 1 = st.pc ∙ ap (λ z. (z + 1) % 8192) x.pc ∙ (omega arith) in
          let wl : words_in (pre ++ sym_of kind ∷ []) ≡ words_in pre + 1 = words_append pre (sym_of kind ∷ []) ∙ ap (λ z. words_in pre + z) (words_one (sym_of kind) ∙ ap (λ z. z + words_in []) (one_word kind)) in
          let now = not_yet (suc k) st.t (nat_eq st.t.pc c.watch.main) y (omega arith) refl in
          let lv = x.level k (omega arith) in
          let lv0 : s0.pushes ≡ s0.pops = ap (λ (z : State). z.pushes) (sym x.early.state) ∙ lv ∙ ap (λ (z : State). z.pops) x.early.state in
          let n = x.count in
          record {
            s = st.t;
            early = now;
            pc = to ∙ sym wl;
            count = omega arith;
            knows = st.knows;
            w = st.w ∙ ap (w_after (layout_of placed) (sym_of kind)) x.w;
            ram = st.ram ∙ ap (λ z. ram_after (layout_of placed) (sym_of kind) z s0.ram) x.w ∙ ap (ram_after (layout_of placed) (sym_of kind) w) x.ram;
            past = past_on k x.past x.early.met;
            earlier =
                earlier_on k x.earlier (now_earlier k pre κ w ram (ins_of a.reaches placed a.laid_out pages c.inputs kind) x (omega arith) (code pre rest kind e)
                (touches a.reaches placed a.laid_out pages c.inputs κ behind s1 r1 k1 g.program refl kind fits right));
            level = level_on k x.level (ap (λ (z : State). z.pushes) now.state ∙ st.pushes ∙ lv0 ∙ sym st.pops ∙ ap (λ (z : State). z.pops) (sym now.state));
            low = λ none. st.low (sets_not pre rest (sym_of kind) (ap none_sets_rp1 (sym e) ∙ none)) (x.low none);
          }

      abbrev One : ℕ → List Sym → Known → Bool → ℕ → List ℕ → List Sym → Sym → Type 0
      One k pre κ behind w ram rest x = LS ≡ pre ++ x ∷ rest → is_right placed Start κ x ≡ true → words_in pre + 1 < words_in LS → At (suc k) (pre ++ x ∷ []) (seen_after Start κ x behind) (w_after (layout_of placed) x w) (ram_after (layout_of placed) x w ram)

      one_fine : (k : ℕ) (pre : List Sym) (κ : Known) (behind : Bool) (w : ℕ) (ram : List ℕ) (rest : List Sym) (x : Sym) → At k pre κ w ram → Fine placed x → One k pre κ behind w ram rest x
      one_fine k pre κ behind w ram rest x y f = subst (One k pre κ behind w ram rest) f.is (one k pre κ behind w ram rest f.kind y f.fits)

      fine_word : (x : Sym) → Fine placed x → words_of_one x ≡ 1
      fine_word x f = ap words_of_one (sym f.is) ∙ one_word f.kind

      -- ---- instructions in a row
      pub record Walked (pre : List Sym) (κ : Known) (ram : List ℕ) : Type 0 where
        pub k : ℕ
        pub w : ℕ
        pub there : At k pre κ w ram

      pub walk : (xs : List Sym) (k : ℕ) (pre : List Sym) (st : Selecting) (w : ℕ) (ram : List ℕ) (rest : List Sym) → At k pre st.known w ram → LS ≡ pre ++ (xs ++ rest) → AreFine placed xs → all_pass (is_right placed Start) Start st xs ≡ true
          → words_in pre + words_in xs < words_in LS → Walked (pre ++ xs) (state_behind st xs).known (ram_behind (layout_of placed) xs w ram)
      walk [] k pre st w ram rest x e fine right lt = record { k = k; w = w; there = subst (λ z. At k z st.known w ram) (sym (append-nil pre)) x }
      walk (x ∷ xs) k pre st w ram rest y e fine right lt =
          let wx = fine_word x fine.0 in
          let wc = words_cons x xs in
          let wp : words_in (pre ++ x ∷ []) ≡ words_in pre + 1 = words_append pre (x ∷ []) ∙ ap (λ z. words_in pre + z) (words_one x ∙ ap (λ z. z + words_in []) wx) in
          let next = one_fine k pre st.known st.behind w ram (xs ++ rest) x y fine.0 e (left_of (is_right placed Start st.known x) (all_pass (is_right placed Start) Start (seen Start st x) xs) right) (omega arith) in
          let on = walk xs (suc k) (pre ++ x ∷ []) (seen Start st x) (w_after (layout_of placed) x w) (ram_after (layout_of placed) x w ram) rest next (e ∙ sym (append_assoc pre (x ∷ []) (xs ++ rest))) fine.1
          (right_of (is_right placed Start st.known x) (all_pass (is_right placed Start) Start (seen Start st x) xs) right) (omega arith) in
          subst (λ z. Walked z (state_behind (seen Start st x) xs).known (ram_behind (layout_of placed) xs (w_after (layout_of placed) x w) (ram_after (layout_of placed) x w ram))) (append_assoc pre (x ∷ []) xs) on
