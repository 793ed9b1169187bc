-- The two jumps of the start block.
use Rattle.std.proofs.Common.{◌≡◌, ℕ, suc, ◌+◌, ◌*◌, ◌/◌, ◌%◌, ◌<◌, ◌≤◌, Bool, true, false, List, [], ◌∷◌, ◌++◌, length, take, Option, Some, None, refl, sym, ap, ◌∙◌, subst, arith}
use Rattle.std.specs.Prelude.{nat_eq, slice_get, slice_index}
use Rattle.pic_isa.specs.Lookup.{row_of}
use Rattle.pic_isa.specs.Table.{word_of}
use Rattle.pic_isa.specs.declared.Ins.TheVariants as isa
use Rattle.pic_isa.proofs.Rows.{finds, has_own}
use Rattle.pic_chip.specs.Run as chip
use Rattle.pic_chip.specs.Run.{IsStart, moment}
use Rattle.pic_chip.specs.State.{State}
use Rattle.pic_map.specs.declared.Placed.{Placed}
use Rattle.sym_code.specs.Programs.{block_of}
use Rattle.sym_code.specs.Words.{words_in}
use Rattle.sym_code.specs.declared.code.BlockName.{BlockName}
use Rattle.sym_code.specs.declared.code.BlockName.TheVariants.{Start}
use Rattle.sym_code.specs.declared.code.Sym.{Sym}
use Rattle.sym_code.specs.declared.code.Sym.TheVariants as syms
use Rattle.sym_code.specs.declared.code.SymBlock.{SymBlock}
use Rattle.sym_code.specs.declared.code.Target.{Target}
use Rattle.code_place.specs.Image.{Holds}
use Rattle.code_place.specs.Instructions.{reach}
use Rattle.code_place.specs.Places.{target_for}
use Rattle.bank_page.specs.Known.{is_page}
use Rattle.bank_page.specs.Near.{none_sets_rp1}
use Rattle.bank_page.specs.Selected.{is_right}
use Rattle.bank_page.specs.declared.known.Known.{Known}
use Rattle.chip_trace.specs.Arriving.{IsAssembled}
use Rattle.chip_trace.specs.Keeping.{Touches}
use Rattle.chip_trace.proofs.Blocks.{words_append, words_cons, some_eq, Found, found, have_address, names_same}
use Rattle.chip_trace.proofs.Sound.{left_of, right_of}
use Rattle.chip_trace.proofs.StartEarly as moments
use Rattle.chip_trace.proofs.StartEarly.{Early, after_flags}
use Rattle.chip_trace.proofs.StartRows.{goto_goes}
use Rattle.chip_trace.proofs.StartWalk.{g, LS, pages, At, Earlier, get_at, take_words, past_on, earlier_on, now_earlier, level_on}

page_is : (o : Option BlockName) (m : BlockName) → is_page o m ≡ true → o ≡ Some m
page_is None m e = absurd (cc)
page_is (Some n) m e = ap Some (names_same n m e)

module _ (blocks : List SymBlock) (at : List ℕ) (placed : Placed) (handler : Option ℕ) (limit : Bool → ℕ) (c : chip.Setting) (start : IsStart c.start) (small : (k : ℕ) → slice_index c.inputs k < 256)
    (a : IsAssembled blocks at placed handler c.image c.watch (g blocks at placed handler limit c start small)) (main_behind : words_in (LS blocks at placed handler limit c start small) ≤ c.watch.main)
    (short : words_in (LS blocks at placed handler limit c start small) ≤ 2048) where
  abbrev L : List Sym
  L = LS blocks at placed handler limit c start small

  goto_row : (pre rest : List Sym) (t : Target) (P : ℕ) → L ≡ pre ++ syms.Goto t ∷ rest → ((f : Found blocks at Start) → target_for blocks at f.block f.start t ≡ Some P) → row_of (slice_index c.image (words_in pre)) ≡ Some (isa.Goto (P % 2048))
  goto_row pre rest t P e tg =
      let i = length pre in
      let get = get_at blocks at placed handler limit c start small a pre rest (syms.Goto t) e in
      let f = found blocks at Start i (syms.Goto t) (have_address blocks at a.fit) get in
      let z : f.start ≡ 0 = some_eq f.start 0 (sym f.place ∙ a.starts) in
      let in_block : slice_get f.block.list.items i ≡ Some (syms.Goto t) = ap (λ (xs : List Sym). slice_get xs i) f.list ∙ get in
      let A = f.start + words_in (take i f.block.list.items) in
      let held = a.words f.number f.block f.start f.in_blocks f.in_at i (syms.Goto t) in_block in
      let w : slice_index c.image (A + 0) ≡ word_of (isa.Goto (P % 2048)) = subst (λ v. Holds c.image A (word_of (isa.Goto (reach v)) ∷ [])) (tg f) held 0 (omega arith) in
      let tw : words_in (take i f.block.list.items) ≡ words_in pre = ap (λ (xs : List Sym). words_in (take i xs)) f.list ∙ take_words blocks at placed handler limit c start small a pre (syms.Goto t ∷ rest) e in
      let k : words_in pre ≡ A + 0 = omega arith in
      ap row_of (ap (slice_index c.image) k ∙ w) ∙ finds (isa.Goto (P % 2048)) (word_of (isa.Goto (P % 2048))) (omega arith) (has_own (isa.Goto (P % 2048)))

  pub record Jumped (k P v : ℕ) (bytes : List ℕ) : Type 0 where
    pub s : State
    pub early : Early c (suc k) (nat_eq P c.watch.main) s
    pub pc : s.pc ≡ P
    pub w : s.w ≡ v
    pub ram : s.ram ≡ bytes
    pub past : (j : ℕ) → j < suc k → (moment c j).met ≡ false
    pub earlier : (j : ℕ) → j < suc k → Earlier blocks at placed handler limit c start small j
    pub level : (j : ℕ) → j ≤ suc k → (moment c j).state.pushes ≡ (moment c j).state.pops
    pub low : none_sets_rp1 L ≡ true → s.bank < 2

  pub jump : (k : ℕ) (pre : List Sym) (κ : Known) (w : ℕ) (ram : List ℕ) (rest : List Sym) (t : Target) (P : ℕ) → At blocks at placed handler limit c start small k pre κ w ram → L ≡ pre ++ syms.Goto t ∷ rest
      → ((f : Found blocks at Start) → target_for blocks at f.block f.start t ≡ Some P) → is_right placed Start κ (syms.Goto t) ≡ true → pages blocks at placed handler limit c start small (block_of Start t) ≡ P / 2048 → P < 8192 → Jumped k P w ram
  jump k pre κ w ram rest t P x e tg right page lt =
      let s0 = x.s in
      let s1 = after_flags c k s0 in
      let wa = words_append pre (syms.Goto t ∷ rest) in
      let wc = words_cons (syms.Goto t) rest in
      let wl = ap words_in e in
      let inside : words_in pre < words_in L = omega arith in
      let none : (f : ℕ) → None ≡ Some f → Touches (g blocks at placed handler limit c start small).program f s1 = λ f q. absurd (cc) in
      let m = block_of Start t in
      let hi = ap (λ z. z / 2 % 2) page in
      let lo = ap (λ z. z % 2) page in
      let h1 = x.knows.high m (page_is κ.high m (left_of (is_page κ.high m) (is_page κ.low m) right)) ∙ hi in
      let l1 = x.knows.low m (page_is κ.low m (right_of (is_page κ.high m) (is_page κ.low m) right)) ∙ lo in
      let t1 : State = record s1 { pc = s1.pclath / 8 % 4 * 2048 + P % 2048 } in
      let to : s0.pclath / 8 % 4 * 2048 + P % 2048 ≡ P = omega arith in
      let row = ap (λ z. row_of (slice_index c.image z)) x.pc ∙ goto_row pre rest t P e tg in
      let y = moments.on c k s0 t1 (isa.Goto (P % 2048)) x.early row (goto_goes c.inputs s1 (P % 2048)) refl in
      let lv = x.level k (omega arith) in
      let lv0 : s0.pushes ≡ s0.pops = ap (λ (z : State). z.pushes) (sym x.early.state) ∙ lv ∙ ap (λ (z : State). z.pops) x.early.state in
      record {
        s = t1;
        early = subst (λ z. Early c (suc k) (nat_eq z c.watch.main) t1) to y;
        pc = to;
        w = x.w;
        ram = x.ram;
        past = past_on blocks at placed handler limit c start small a main_behind short k x.past x.early.met;
        earlier =
            earlier_on blocks at placed handler limit c start small a main_behind short k x.earlier
            (now_earlier blocks at placed handler limit c start small a main_behind short k pre κ w ram (isa.Goto (P % 2048)) x inside (goto_row pre rest t P e tg) (λ f q. none f q));
        level = level_on blocks at placed handler limit c start small a main_behind short k x.level (ap (λ (z : State). z.pushes) y.state ∙ lv0 ∙ ap (λ (z : State). z.pops) (sym y.state));
        low = x.low;
      }
