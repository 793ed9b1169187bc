-- The run from reset to main, and what main finds.
use Rattle.std.proofs.Common.{◌≡◌, ℕ, zero, suc, ◌+◌, ◌-◌, ◌/◌, ◌<◌, ◌≤◌, Bool, true, false, List, [], ◌∷◌, ◌++◌, length, take, Option, Some, None, refl, sym, ap, ◌∙◌, subst, append-nil, append_assoc, ⊎_elim, arith}
use Rattle.std.specs.Prelude.{nat_eq, if◌then◌else◌, slice_get, slice_index, slice_index_or, unwrap_or}
use Rattle.std.specs.Option.{option_or}
use Rattle.std.specs.Global.{Global}
use Rattle.std.specs.List.{All}
use Rattle.std.specs.declared.vec.Vec.{Vec}
use Rattle.std.proofs.lemmas.Bool.{ne_eqb, eq-eqb, cases_lt}
use Rattle.core_code.specs.Bytes.{Unset}
use Rattle.core_code.specs.declared.code.Byte.TheVariants.{Static}
use Rattle.core_code.specs.declared.code.FirstByte.{FirstByte}
use Rattle.pic_chip.specs.Interrupts.{control_of}
use Rattle.pic_chip.specs.Run as chip
use Rattle.pic_chip.specs.Run.{IsStart, moment}
use Rattle.pic_chip.specs.State.{State, reset}
use Rattle.pic_map.specs.declared.Placed.{Placed}
use Rattle.sym_code.specs.Effect.{Setting}
use Rattle.sym_code.specs.Layout.{address_of, general_at, shown, object}
use Rattle.sym_code.specs.Programs.{block_in, same_name, label_from}
use Rattle.sym_code.specs.Selects.{bare}
use Rattle.sym_code.specs.Words.{words_in}
use Rattle.sym_code.specs.declared.code.BlockName.TheVariants.{Start, Copy}
use Rattle.sym_code.specs.declared.code.Label.TheVariants.{Inner, Halt}
use Rattle.sym_code.specs.declared.code.PlainOperation.TheVariants.{Nop}
use Rattle.sym_code.specs.declared.code.Sym.{Sym}
use Rattle.sym_code.specs.declared.code.Sym.TheVariants as syms
use Rattle.sym_code.specs.declared.code.SymBlock.{SymBlock}
use Rattle.sym_code.specs.declared.code.Target.TheVariants as targets
use Rattle.code_place.specs.Instructions.{known}
use Rattle.code_place.specs.Pages.{page_words}
use Rattle.code_place.specs.Places.{at_if, label_at, block_place, target_for}
use Rattle.isr_save.specs.Start as source
use Rattle.isr_save.specs.Start.{object_code, objects_code, start_code}
use Rattle.code_place.specs.Layouts.{layout_of}
use Rattle.bank_page.specs.Known.{nothing}
use Rattle.bank_page.specs.Selected.{is_right, all_pass, seen, front}
use Rattle.bank_page.specs.declared.known.Known.{Known}
use Rattle.bank_page.specs.declared.selecting.State.{State as Selecting}
use Rattle.chip_trace.specs.Arriving.{IsAssembled, IsStarted}
use Rattle.chip_trace.proofs.Blocks.{some_eq, Found, have_address, room, behind_first, words_append, words_cons, words_behind, label_stands, label_behind}
use Rattle.chip_trace.proofs.Moments.{moment_ranged}
use Rattle.chip_trace.proofs.Sound.{left_of, right_of}
use Rattle.chip_trace.specs.Starting.{held_in, IsBeginning}
use Rattle.chip_trace.proofs.StartEarly as moments
use Rattle.chip_trace.proofs.StartEarly.{Early}
use Rattle.chip_trace.proofs.StartJumps.{Jumped, jump}
use Rattle.chip_trace.proofs.StartParts.{Split, split, no_label, pass_both, fine_bare, all_fine}
use Rattle.chip_trace.proofs.StartStores.{number_of, ram_behind, bare_ram, AllStored, all_stored}
use Rattle.chip_trace.proofs.StartNumbers.{small, once}
use Rattle.chip_trace.proofs.StartWalk as walks
use Rattle.chip_trace.proofs.StartWalk.{AreFine, state_behind, At, Walked, walk}

no_some : {A : Type 0} (x : A) → None ≡ Some x → ⊥
no_some x e = cc

vector_label : (o : Option ℕ) → label_from (syms.Plain Nop ∷ source.vector o) (Inner 0) 0 ≡ None
vector_label None = refl
vector_label (Some k) = refl

module _ (blocks : List SymBlock) (at : List ℕ) (placed : Placed) (handler : Option ℕ) (limit : Bool → ℕ) (c : chip.Setting) (start : IsStart c.start) (bytes : (k : ℕ) → slice_index c.inputs k < 256)
    (a : IsAssembled blocks at placed handler c.image c.watch (walks.g blocks at placed handler limit c start bytes)) where
  abbrev g : Setting
  g = walks.g blocks at placed handler limit c start bytes

  abbrev LS : List Sym
  LS = block_in blocks Start

  -- ---- the first block
  abbrev b0 : SymBlock
  b0 = a.start.0

  first_list : (bs : List SymBlock) → slice_get bs 0 ≡ Some b0 → block_in bs Start ≡ b0.list.items
  first_list [] e = absurd (no_some b0 e)
  first_list (x ∷ xs) e =
      let is : x ≡ b0 = some_eq x b0 e in
      ap (λ z. if z then x.list.items else block_in xs Start) (ap (λ (z : SymBlock). same_name z.name Start) is ∙ ap (λ z. same_name z Start) a.start.2) ∙ ap (λ (z : SymBlock). z.list.items) is

  first_at : (bs : List SymBlock) (as' : List ℕ) → slice_get bs 0 ≡ Some b0 → ((k : ℕ) (block : SymBlock) → slice_get bs k ≡ Some block → (s : ℕ) × (slice_get as' k ≡ Some s)) → block_place bs as' Start ≡ Some 0 → slice_get as' 0 ≡ Some 0
  first_at [] as' e all p = absurd (no_some b0 e)
  first_at (x ∷ xs) [] e all p = absurd (no_some (all 0 x refl).0 (all 0 x refl).1)
  first_at (x ∷ xs) (v ∷ as') e all p =
      let is : x ≡ b0 = some_eq x b0 e in
      sym (ap (λ z. option_or (at_if z v) (block_place xs as' Start)) (ap (λ (z : SymBlock). same_name z.name Start) is ∙ ap (λ z. same_name z Start) a.start.2)) ∙ p

  at_zero : slice_get at 0 ≡ Some 0
  at_zero = first_at blocks at a.start.1 (have_address blocks at a.fit) a.starts

  short : words_in LS ≤ 2048
  short = let r = room blocks at a.fit 0 b0 0 a.start.1 at_zero in let r1 = r.1 in let e = ap words_in (first_list blocks a.start.1) in omega arith

  -- main stands behind the start block
  main_stands : (words_in LS ≤ c.watch.main) × (c.watch.main < 8192)
  main_stands = by m.0 m.1 m.2 m.3 m.4 where
    m : (k : ℕ) × (block : SymBlock) × (slice_get blocks k ≡ Some block) × (slice_get at k ≡ Some c.watch.main) × (block.name ≡ Copy 0)
    m = a.targets b0 0 (targets.Block (Copy 0)) c.watch.main a.main

    by : (k : ℕ) (block : SymBlock) → slice_get blocks k ≡ Some block → slice_get at k ≡ Some c.watch.main → block.name ≡ Copy 0 → (words_in LS ≤ c.watch.main) × (c.watch.main < 8192)
    by zero block e f n =
        let q : Start ≡ Copy 0 = sym a.start.2 ∙ ap (λ (v : SymBlock). v.name) (some_eq b0 block (sym a.start.1 ∙ e)) ∙ n in absurd (cc)
    by (suc k) block e f n =
        let bf = behind_first blocks at a.fit k block b0 c.watch.main 0 a.start.1 at_zero e f in
        let w = ap words_in (first_list blocks a.start.1) in
        (omega arith, (room blocks at a.fit (suc k) block c.watch.main e f).0)

  module _ (statics : List (Vec FirstByte Global)) (b : IsBeginning blocks placed handler statics g) where
    abbrev objs : List Sym
    objs = objects_code 0 statics

    abbrev lab : Sym
    lab = syms.Label (Inner 0)

    abbrev first_goto : Sym
    first_goto = syms.Goto (targets.Label (Inner 0))

    abbrev last_goto : Sym
    last_goto = syms.Goto (targets.Block (Copy 0))

    abbrev skipped : List Sym
    skipped = syms.Plain Nop ∷ source.vector handler

    code_is : bare LS ≡ first_goto ∷ (skipped ++ lab ∷ (objs ++ source.main))
    code_is =
        b.code ∙ append_assoc ((source.reset ++ source.vector handler) ++ lab ∷ []) objs source.main
        ∙ append_assoc (source.reset ++ source.vector handler) (lab ∷ []) (objs ++ source.main)

    s1 : Split LS [] first_goto (skipped ++ lab ∷ (objs ++ source.main))
    s1 = split LS [] first_goto (skipped ++ lab ∷ (objs ++ source.main)) code_is

    s2 : Split s1.post skipped lab (objs ++ source.main)
    s2 = split s1.post skipped lab (objs ++ source.main) s1.behind

    abbrev ended : List Sym
    ended = syms.Label Halt ∷ syms.Goto (targets.Label Halt) ∷ []

    s3 : Split s2.post objs last_goto ended
    s3 = split s2.post objs last_goto ended s2.behind

    -- the front up to the label
    abbrev pre2 : List Sym
    pre2 = s1.pre ++ first_goto ∷ s2.pre

    whole2 : LS ≡ pre2 ++ lab ∷ s2.post
    whole2 = s1.whole ∙ ap (λ v. s1.pre ++ first_goto ∷ v) s2.whole ∙ sym (append_assoc s1.pre (first_goto ∷ s2.pre) (lab ∷ s2.post))

    whole3 : LS ≡ (pre2 ++ lab ∷ []) ++ (s3.pre ++ last_goto ∷ s3.post)
    whole3 = whole2 ∙ sym (append_assoc pre2 (lab ∷ []) s2.post) ∙ ap (λ v. (pre2 ++ lab ∷ []) ++ v) s3.whole

    -- ---- what is selected
    abbrev test : Known → Sym → Bool
    test = is_right placed Start

    pass_in : all_pass test Start front b0.list.items ≡ true
    pass_in = ap (λ z. all_pass (is_right placed z) z front b0.list.items) (sym a.start.2) ∙ b.selected b0 a.start.1

    pass0 : all_pass test Start front LS ≡ true
    pass0 = ap (all_pass test Start front) (first_list blocks a.start.1) ∙ pass_in

    pass1 : (all_pass test Start front s1.pre ≡ true) × (all_pass test Start (state_behind front s1.pre) (first_goto ∷ s1.post) ≡ true)
    pass1 = pass_both test s1.pre (first_goto ∷ s1.post) front (ap (all_pass test Start front) (sym s1.whole) ∙ pass0)

    abbrev st1 : Selecting
    st1 = state_behind front s1.pre

    abbrev st2 : Selecting
    st2 = state_behind (seen Start st1 first_goto) s2.pre

    abbrev st3 : Selecting
    st3 = seen Start st2 lab

    pass2 : all_pass test Start st2 (lab ∷ s2.post) ≡ true
    pass2 =
        let q = right_of (test st1.known first_goto) (all_pass test Start (seen Start st1 first_goto) s1.post) pass1.1 in
        (pass_both test s2.pre (lab ∷ s2.post) (seen Start st1 first_goto) (ap (all_pass test Start (seen Start st1 first_goto)) (sym s2.whole) ∙ q)).1

    pass3 : (all_pass test Start st3 s3.pre ≡ true) × (all_pass test Start (state_behind st3 s3.pre) (last_goto ∷ s3.post) ≡ true)
    pass3 =
        let q = right_of (test st2.known lab) (all_pass test Start st3 s2.post) pass2 in
        pass_both test s3.pre (last_goto ∷ s3.post) st3 (ap (all_pass test Start st3) (sym s3.whole) ∙ q)

    -- ---- up to the first jump
    abbrev Stands : ℕ → List Sym → Known → ℕ → List ℕ → Type 0
    Stands = At blocks at placed handler limit c start bytes

    words_1 : words_in LS ≡ words_in s1.pre + (1 + words_in s1.post)
    words_1 = ap words_in s1.whole ∙ words_append s1.pre (first_goto ∷ s1.post) ∙ ap (λ z. words_in s1.pre + z) (words_cons first_goto s1.post)

    at_first : Stands 0 [] nothing c.start.w c.start.ram
    at_first =
        let z : nat_eq 0 c.watch.main ≡ false = ne_eqb 0 c.watch.main (λ q. let w = words_1 in let m = main_stands.0 in omega arith) in
        let e = subst (λ v. Early c 0 v (reset c.start)) z (moments.at_reset c) in
        record {
          s = reset c.start;
          early = e;
          pc = refl;
          count = omega arith;
          knows = record { rp0 = λ v q. absurd (no_some v q); rp1 = λ v q. absurd (no_some v q); low = λ v q. absurd (no_some v q); high = λ v q. absurd (no_some v q) };
          w = refl;
          ram = refl;
          past = λ j lt. absurd (omega arith);
          earlier = λ j lt. absurd (omega arith);
          level = λ j le. let q : 0 ≡ j = omega arith in
              subst (λ k. (moment c k).state.pushes ≡ (moment c k).state.pops) q (ap (λ (v : State). v.pushes) e.state ∙ ap (λ (v : State). v.pops) (sym e.state));
          low = λ none. omega arith;
        }

    walked1 : Walked blocks at placed handler limit c start bytes a main_stands.0 short s1.pre st1.known c.start.ram
    walked1 =
        let fine = fine_bare placed s1.pre (subst (AreFine placed) (sym s1.front) tt) in
        let w = words_1 in let n : words_in [] ≡ 0 = refl in
        let x = walk blocks at placed handler limit c start bytes a main_stands.0 short s1.pre 0 [] front c.start.w c.start.ram (first_goto ∷ s1.post) at_first s1.whole fine pass1.0 (omega arith) in
        let same : ram_behind (layout_of placed) s1.pre c.start.w c.start.ram ≡ c.start.ram = bare_ram (layout_of placed) s1.pre c.start.w c.start.ram ∙ ap (λ v. ram_behind (layout_of placed) v c.start.w c.start.ram) s1.front in
        subst (Walked blocks at placed handler limit c start bytes a main_stands.0 short s1.pre st1.known) same x

    -- ---- the first jump
    abbrev P1 : ℕ
    P1 = words_in pre2

    words_2 : words_in LS ≡ P1 + (words_in s3.pre + (1 + words_in s3.post))
    words_2 =
        let e1 = words_cons lab s2.post in
        let e2 = ap words_in s3.whole ∙ words_append s3.pre (last_goto ∷ s3.post) in
        let e3 = words_cons last_goto s3.post in
        ap words_in whole2 ∙ words_append pre2 (lab ∷ s2.post) ∙ (omega arith)

    no_first : label_from pre2 (Inner 0) 0 ≡ None
    no_first =
        let f = no_label s1.pre (Inner 0) 0 0 (ap (λ v. label_from v (Inner 0) 0) s1.front) in
        let q = no_label s2.pre (Inner 0) 0 (0 + length s1.pre + 1) (ap (λ v. label_from v (Inner 0) 0) s2.front ∙ vector_label handler) in
        label_behind s1.pre (first_goto ∷ s2.pre) (Inner 0) 0 f ∙ q

    label_found : label_from LS (Inner 0) 0 ≡ Some (0 + length pre2)
    label_found = ap (λ (v : List Sym). label_from v (Inner 0) 0) whole2 ∙ label_behind pre2 (lab ∷ s2.post) (Inner 0) 0 no_first

    label_target : (f : Found blocks at Start) → target_for blocks at f.block f.start (targets.Label (Inner 0)) ≡ Some P1
    label_target f =
        let z : f.start ≡ 0 = some_eq f.start 0 (sym f.place ∙ a.starts) in
        let s = (label_stands LS (Inner 0) 0 0 (0 + length pre2) label_found).1 in
        let n : 0 + length pre2 - 0 ≡ length pre2 + 0 = omega arith in
        let w = words_behind pre2 (lab ∷ s2.post) 0 in
        let e : words_in [] ≡ 0 = refl in
        let t : words_in (take (0 + length pre2 - 0) LS) ≡ P1 + words_in [] = ap (λ (v : List Sym). words_in (take (0 + length pre2 - 0) v)) whole2 ∙ ap (λ v. words_in (take v (pre2 ++ lab ∷ s2.post))) n ∙ w in
        let p : 0 + words_in (take (0 + length pre2 - 0) LS) ≡ P1 = omega arith in
        ap (λ v. label_at (Inner 0) v f.block.list.items) z ∙ ap (λ (v : List Sym). label_at (Inner 0) 0 v) f.list ∙ s ∙ ap Some p

    start_page : g.page_of Start ≡ P1 / 2048
    start_page = ap (λ v. known v / page_words) a.starts ∙ (let w = words_2 in let s = short in let z : 0 ≡ P1 / 2048 = omega arith in z)

    jumped1 : Jumped blocks at placed handler limit c start bytes a main_stands.0 short walked1.k P1 walked1.w c.start.ram
    jumped1 =
        jump blocks at placed handler limit c start bytes a main_stands.0 short walked1.k s1.pre st1.known walked1.w c.start.ram s1.post (targets.Label (Inner 0)) P1 walked1.there s1.whole label_target
        (left_of (test st1.known first_goto) (all_pass test Start (seen Start st1 first_goto) s1.post) pass1.1) start_page (let w = words_2 in let s = short in omega arith)

    -- ---- the first bytes
    at_second : Stands (suc walked1.k) (pre2 ++ lab ∷ []) st3.known walked1.w c.start.ram
    at_second =
        let z : nat_eq P1 c.watch.main ≡ false = ne_eqb P1 c.watch.main (λ q. let w = words_2 in let m = main_stands.0 in omega arith) in
        let n : words_in [] ≡ 0 = refl in
        let wc = words_cons lab [] in
        let wa = words_append pre2 (lab ∷ []) in
        let wl : words_in (pre2 ++ lab ∷ []) ≡ P1 = omega arith in
        let e1 = words_append s1.pre (first_goto ∷ s2.pre) in
        let e2 = words_cons first_goto s2.pre in
        let ct = walked1.there.count in
        record {
          s = jumped1.s;
          early = subst (λ v. Early c (suc walked1.k) v jumped1.s) z jumped1.early;
          pc = jumped1.pc ∙ sym wl;
          count = omega arith;
          knows = record { rp0 = λ v q. absurd (no_some v q); rp1 = λ v q. absurd (no_some v q); low = λ v q. absurd (no_some v q); high = λ v q. absurd (no_some v q) };
          w = jumped1.w;
          ram = jumped1.ram;
          past = jumped1.past;
          earlier = jumped1.earlier;
          level = jumped1.level;
          low = jumped1.low;
        }

    sizes : (m : ℕ) → m < length statics → length (slice_index_or (held_in statics) m []) ≤ (object (layout_of placed) (0 + m)).size
    sizes m lt = let z : m ≡ 0 + m = omega arith in subst (λ v. length (slice_index_or (held_in statics) m []) ≤ (object (layout_of placed) v).size) z (b.sizes m lt)

    kept_all : AllStored (layout_of placed) (small a.reaches (layout_of placed) a.laid_out) (once a.reaches (layout_of placed) a.laid_out) 0 (held_in statics) objs [] walked1.w c.start.ram
    kept_all = all_stored (layout_of placed) (small a.reaches (layout_of placed) a.laid_out) (once a.reaches (layout_of placed) a.laid_out) 0 statics [] walked1.w c.start.ram start.count sizes

    walked2 : Walked blocks at placed handler limit c start bytes a main_stands.0 short ((pre2 ++ lab ∷ []) ++ s3.pre) (state_behind st3 s3.pre).known kept_all.ram'
    walked2 =
        let fine = fine_bare placed s3.pre (subst (AreFine placed) (sym s3.front) (all_fine placed 0 statics sizes)) in
        let w = words_2 in
        let n : words_in [] ≡ 0 = refl in
        let wc = words_cons lab [] in
        let wa = words_append pre2 (lab ∷ []) in
        let x = walk blocks at placed handler limit c start bytes a main_stands.0 short s3.pre (suc walked1.k) (pre2 ++ lab ∷ []) st3 walked1.w c.start.ram (last_goto ∷ s3.post) at_second whole3 fine pass3.0 (omega arith) in
        let same : ram_behind (layout_of placed) s3.pre walked1.w c.start.ram ≡ kept_all.ram' =
        bare_ram (layout_of placed) s3.pre walked1.w c.start.ram ∙ ap (λ v. ram_behind (layout_of placed) v walked1.w c.start.ram) (s3.front ∙ sym (append-nil objs)) ∙ kept_all.same in
        subst (Walked blocks at placed handler limit c start bytes a main_stands.0 short ((pre2 ++ lab ∷ []) ++ s3.pre) (state_behind st3 s3.pre).known) same x

    -- ---- the jump to main
    jumped2 : Jumped blocks at placed handler limit c start bytes a main_stands.0 short walked2.k c.watch.main walked2.w kept_all.ram'
    jumped2 =
        jump blocks at placed handler limit c start bytes a main_stands.0 short walked2.k ((pre2 ++ lab ∷ []) ++ s3.pre) (state_behind st3 s3.pre).known walked2.w kept_all.ram' s3.post (targets.Block (Copy 0)) c.watch.main walked2.there
        (whole3 ∙ sym (append_assoc (pre2 ++ lab ∷ []) s3.pre (last_goto ∷ s3.post))) (λ f. a.main)
        (left_of (test (state_behind st3 s3.pre).known last_goto) (all_pass test Start (seen Start (state_behind st3 s3.pre) last_goto) s3.post) pass3.1)
        (ap (λ v. known v / page_words) a.main) main_stands.1

    abbrev M : ℕ
    M = suc walked2.k

    is_met : (moment c M).met ≡ true
    is_met = jumped2.early.met ∙ eq-eqb c.watch.main c.watch.main refl

    soon : M ≤ 4096
    soon =
        let ct = walked2.there.count in let w = words_2 in let s = short in
        let n : words_in [] ≡ 0 = refl in
        let wc = words_cons lab [] in
        let wa = words_append pre2 (lab ∷ []) in
        let wb = words_append (pre2 ++ lab ∷ []) s3.pre in
        omega arith

    early_before : (d n : ℕ) → n + d ≡ M → (moment c n).early ≡ []
    early_before zero n e = let q : M ≡ n = omega arith in subst (λ v. (moment c v).early ≡ []) q jumped2.early.early
    early_before (suc d) n e = moments.early_back c n (early_before d (suc n) (omega arith))

    early_behind : (d n : ℕ) → n ≡ M + d → ((moment c n).met ≡ true) × ((moment c n).early ≡ [])
    early_behind zero n e = let q : M ≡ n = omega arith in (subst (λ v. (moment c v).met ≡ true) q is_met, subst (λ v. (moment c v).early ≡ []) q jumped2.early.early)
    early_behind (suc d) n e =
        let p = early_behind d (M + d) refl in
        let q : suc (M + d) ≡ n = omega arith in
        let t = moments.met_stays c (M + d) p.0 in
        (subst (λ v. (moment c v).met ≡ true) q t.0, subst (λ v. (moment c v).early ≡ []) q (t.1 ∙ p.1))

    no_early : (n : ℕ) → (moment c n).early ≡ []
    no_early n = ⊎_elim (λ lt. early_before (M - n) n (omega arith)) (λ ge. (early_behind (n - M) n (omega arith)).1) (cases_lt n M)

    found_there : (n offset k : ℕ) → offset < length (slice_index_or (held_in statics) n []) → general_at (address_of (layout_of placed) (Static n offset)) ≡ Some k
        → slice_index kept_all.ram' k ≡ shown (layout_of placed) (slice_index_or (slice_index_or (held_in statics) n []) offset Unset)
    found_there n offset k lt e =
        let z : 0 + n ≡ n = omega arith in
        let q : k ≡ number_of (layout_of placed) (Static (0 + n) offset) = sym (ap (λ v. unwrap_or v 0) e) ∙ ap (λ v. number_of (layout_of placed) (Static v offset)) (sym z) in
        ap (slice_index kept_all.ram') q ∙ kept_all.holds n offset lt

    pub started : IsStarted g (held_in statics) c
    started =
        let e = jumped2.early in
        let r = moment_ranged c start bytes M in
        let m = ap (λ (v : State). v.ram) e.state ∙ jumped2.ram in
        record {
          at = M;
          soon = soon;
          met = is_met;
          first_met = jumped2.past;
          silent = e.trace;
          no_early_access = no_early;
          begun = λ registers fits. record {
            registers = fits;
            bytes = r.bytes;
            static = λ n offset k lt there. ap (λ v. slice_index v k) m ∙ found_there n offset k lt there;
          };
          control = ap control_of e.state ∙ e.control;
          starting = λ k lt. let y = jumped2.earlier k lt in record { pc = y.pc; untaken = y.untaken; low = λ near. y.low (b.near near); touches = y.touches };
          level = jumped2.level;
          outside = e.handling;
          pc = ap (λ (v : State). v.pc) e.state ∙ jumped2.pc;
          low = λ near. subst (λ (v : State). v.bank < 2) (sym e.state) (jumped2.low (b.near near));
        }
