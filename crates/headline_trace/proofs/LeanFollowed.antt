-- Whatever the pass makes follows the given blocks.
use Rattle.std.proofs.Common.{◌≡◌, ℕ, ◌+◌, Bool, true, false, List, map, map-id, slice_get, Option, Some, None, refl, sym, ◌∙◌, subst, arith}
use Rattle.std.proofs.Math.Path.{fun_ext}
use Rattle.std.specs.List.{AllZip}
use Rattle.pic_world.specs.World.{Happening}
use Rattle.run_links.specs.Runs.{Run, Goes, Follows, IsSlow}
use Rattle.core_code.specs.Bytes.{Object}
use Rattle.sym_code.specs.Layout.{DataLayout, object, frame, general_at}
use Rattle.sym_code.specs.Machine.{sym_start}
use Rattle.sym_code.specs.Programs.{block_in}
use Rattle.sym_code.specs.Runs.{run_of}
use Rattle.sym_code.specs.declared.code.BlockName.{BlockName}
use Rattle.sym_code.specs.declared.code.BlockName.TheVariants.{Copy}
use Rattle.sym_code.specs.declared.code.Sym.{Sym}
use Rattle.sym_code.specs.declared.code.SymBlock.{SymBlock}
use Rattle.code_place.specs.Layouts.{layout_of}
use Rattle.math_helpers.specs.Routines.{helper_code}
use Rattle.math_helpers.specs.Shape.{ArePriced}
use Rattle.select_wide.specs.Links.{AreDear}
use Rattle.bank_page.specs.Links.{price_in}
use Rattle.bank_trace.proofs.WholePrices.{blocks_are_dear, routines_are_priced}
use Rattle.lean_code.proofs.Checking.{test_is_right}
use Rattle.lean_code.proofs.Shrinking.{carried_is_cheaper}
use Rattle.lean_code.proofs.Weighed.{lean_weighed}
use Rattle.lean_code.specs.Checked.{Sketch, lean_of, is_lean}
use Rattle.lean_code.specs.Admissible.{rows_at, IsAdmissible, AreByRows}
use Rattle.lean_code.specs.Clear.{IsClear}
use Rattle.lean_code.specs.Links.{carried, is_clear}
use Rattle.lean_code.specs.Rows.{Lean, olds, puts}
use Rattle.lean_code.specs.Steady.{are_steady}
use Rattle.lean_pass.specs.Made.{IsAsGiven, Kept, Made}
use Rattle.bank_trace.proofs.LeanBlocks.{lean_blocks_are_dear, lean_routines_are_priced}
use Rattle.bank_trace.proofs.LeanNames.{blocks_are_steady}
use Rattle.headline_trace.proofs.LeanCounted.{surely, surely_is, marked_counts}
use Rattle.headline_trace.proofs.LeanNames.{kept_named}
use Rattle.headline_trace.specs.LeanLinks.{setting_by, program_by, CodeFollows, AreFollowed, LeanBlocksFollow}

-- ---- blocks that were left as they are
abbrev self_follows : (a : Run (Happening ℕ)) (n : ℕ) → Goes a n → Follows (λ event. event) a a n
self_follows a n goes = record {
  at = λ i. i;
  starts = refl;
  rises = λ i j l m. l;
  goes = goes;
  same = λ i l. sym (map-id (a.trace i));
  fast = λ i j l m. omega arith;
  rests = λ r. r;
}

self_slow : (a : Run (Happening ℕ)) (n : ℕ) (goes : Goes a n) → IsSlow (λ event. event) a a n (self_follows a n goes)
self_slow a n goes i j l m = omega arith

-- by no hidden byte
abbrev none : ℕ → Bool
none a = false

none_hidden : (k : Option ℕ) → is_clear none k ≡ true
none_hidden None = refl
none_hidden (Some k) = refl

all_clear : (l : DataLayout) (lent : Object → Bool) → IsClear none l lent
all_clear l lent = record { objects = λ n is offset below. none_hidden (general_at ((object l n).address + offset)); frames = λ c is offset below. none_hidden (general_at ((frame l c).address + offset)) }

self_code : (l : DataLayout) (handler : Option ℕ) (given : BlockName → List Sym) (new : BlockName → ℕ → ℕ) → CodeFollows none l handler given given new (λ name j. 1) new
self_code l handler given new page limit o e r m n goes open_all =
    let a = run_of (setting_by l handler given page limit) new e o (sym_start (program_by l handler given) r m) in (self_follows a n goes, self_slow a n goes)

module _ (l : DataLayout) (handler : Option ℕ) (variables : ℕ → ℕ) (lent : Object → Bool) (given lean : List SymBlock) (new : BlockName → ℕ → ℕ) where
  kept_followed : AllZip IsAsGiven given lean → AreFollowed l handler variables lent given lean new
  kept_followed all =
      let same = kept_named given lean all in
      record {
        price = new;
        sure = λ name j. 1;
        sures = λ name j s got marked. omega arith;
        hidden = none;
        clear = all_clear l lent;
        keeps = subst (λ (code : BlockName → List Sym). CodeFollows none l handler (block_in given) code new (λ name j. 1) new) (fun_ext (λ name. sym (same name))) (self_code l handler (block_in given) new);
        dear = λ placed made is has whole name.
            subst (λ (p : BlockName → ℕ → ℕ). AreDear (layout_of placed) (p name) (block_in given name)) (sym is)
            (subst (λ (list : List Sym). AreDear (layout_of placed) (price_in (block_in made) name) list) (same name) (blocks_are_dear placed lean made has whole name));
        priced = λ placed made is has h root c code whole fits.
            subst (λ (p : BlockName → ℕ → ℕ). ArePriced (p (Copy c)) (helper_code h root c)) (sym is) (routines_are_priced placed lean made has h root c (same (Copy c) ∙ code) whole fits);
      }

-- ---- blocks that a certificate makes
module _ (k : Sketch) (variables : ℕ → ℕ) (lent : Object → Bool) (given lean : List SymBlock) (new : BlockName → ℕ → ℕ) (tested : is_lean k ≡ true) (steady : are_steady k.blocks ≡ true) (admissible : IsAdmissible variables lent k) (rows : AreByRows k given lean) where
  -- prices know no limit and no page
  abbrev any : Lean
  any = lean_of k (λ i. 0) (λ i. 0) (λ i. 0)

  abbrev price : BlockName → ℕ → ℕ
  price = carried any new

  abbrev sure : BlockName → ℕ → ℕ
  sure name j = surely (slice_get (rows_at k name) j)

  code_follows : CodeFollows k.hidden k.layout k.handler (λ name. olds (rows_at k name)) (λ name. puts (rows_at k name)) price sure new
  code_follows page limit o e r m n goes open_all =
      let x = lean_of k limit page page in
      lean_weighed x (test_is_right k tested limit page page) price new sure (carried_is_cheaper x new) (λ name j row there reached. surely_is (rows_at k name) j row there reached) o e r m n goes open_all

  blocks_follow : CodeFollows k.hidden k.layout k.handler (block_in given) (block_in lean) price sure new
  blocks_follow =
      subst (λ (code : BlockName → List Sym). CodeFollows k.hidden k.layout k.handler (block_in given) code price sure new) (fun_ext (λ name. sym (rows.made_is name)))
      (subst (λ (code : BlockName → List Sym). CodeFollows k.hidden k.layout k.handler code (λ name. puts (rows_at k name)) price sure new) (fun_ext (λ name. sym (rows.given_is name))) code_follows)

  made_followed : (l : DataLayout) (handler : Option ℕ) → k.layout ≡ l → k.handler ≡ handler → AreFollowed l handler variables lent given lean new
  made_followed l handler same handled = record {
    price = price;
    sure = sure;
    sures = λ name j s got marked. marked_counts variables (rows_at k name) j s (admissible.marks name) (subst (λ (list : List Sym). slice_get list j ≡ Some s) (rows.given_is name) got) marked;
    hidden = k.hidden;
    clear = subst (λ (x : DataLayout). IsClear k.hidden x lent) same admissible.hidden;
    keeps = subst (λ (x : DataLayout). CodeFollows k.hidden x handler (block_in given) (block_in lean) price sure new) same
        (subst (λ (x : Option ℕ). CodeFollows k.hidden k.layout x (block_in given) (block_in lean) price sure new) handled blocks_follow);
    dear = λ placed made is has whole name.
        subst (λ (p : BlockName → ℕ → ℕ). AreDear (layout_of placed) (carried any p name) (block_in given name)) (sym is)
        (subst (λ (list : List Sym). AreDear (layout_of placed) (carried any (price_in (block_in made)) name) list) (sym (rows.given_is name))
        (lean_blocks_are_dear any placed lean made has whole name (rows.made_is name) (blocks_are_steady k (λ i. 0) (λ i. 0) (λ i. 0) steady name)));
    priced = λ placed made is has h root c code whole fits.
        subst (λ (p : BlockName → ℕ → ℕ). ArePriced (carried any p (Copy c)) (helper_code h root c)) (sym is)
        (lean_routines_are_priced any placed lean made has h root c (sym (rows.given_is (Copy c)) ∙ code) (rows.made_is (Copy c)) (blocks_are_steady k (λ i. 0) (λ i. 0) (λ i. 0) steady (Copy c)) whole fits);
  }

pub lean_blocks_follow : LeanBlocksFollow
lean_blocks_follow l handler variables lent given lean (Kept all) new = kept_followed l handler variables lent given lean new all
lean_blocks_follow l handler variables lent given lean (Made k same handled by steady admissible rows) new = made_followed k variables lent given lean new by.tested steady admissible rows l handler same handled
