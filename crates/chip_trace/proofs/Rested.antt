-- The same image, with main at another word of those where it stays when it has ended.
use Rattle.std.proofs.Common.{◌≡◌, ℕ, ◌+◌, ◌≤◌, List, [], ◌∷◌, refl, ap}
use Rattle.std.specs.Prelude.{◌%◌}
use Rattle.pic_isa.specs.declared.Ins.{Ins}
use Rattle.sym_code.specs.Effect.{Setting}
use Rattle.sym_code.specs.Programs.{Position}
use Rattle.sym_code.specs.declared.code.Label.TheVariants.{Inner, Halt, Restore}
use Rattle.sym_code.specs.declared.code.Sym.{Sym}
use Rattle.sym_code.specs.declared.code.Sym.TheVariants as syms
use Rattle.sym_code.specs.declared.code.Target.{Target}
use Rattle.sym_code.specs.declared.code.Target.TheVariants as targets
use Rattle.chip_trace.proofs.Image.{IsImage}
use Rattle.chip_trace.proofs.Relations.{Ground, Reaches, Means, words, IsPlaced}
use Rattle.chip_trace.proofs.Stands.{Vector}

abbrev pub rested : Ground → ℕ → Ground
rested h j = record h { rests = j }

module _ (g : Setting) (h : Ground) (j : ℕ) where
  reaches_at : (p : Position) (t : Target) (k : ℕ) → Reaches g h p t k → Reaches g (rested h j) p t k
  reaches_at p (targets.Label Halt) k r = r
  reaches_at p (targets.Label Restore) k r = r
  reaches_at p (targets.Label (Inner n)) k r = r
  reaches_at p (targets.Block b) k r = r

  means_at : (p : Position) (s : Sym) (i : Ins) → Means g h p s i → Means g (rested h j) p s i
  means_at p (syms.Label label) i m = m
  means_at p (syms.SelectBank which on) i m = m
  means_at p (syms.SelectPage which target) i m = m
  means_at p (syms.File op x into) i m = m
  means_at p (syms.Movwf x) i m = m
  means_at p (syms.Clrf x) i m = m
  means_at p (syms.Bit op x b) i m = m
  means_at p (syms.Literal op v) i m = m
  means_at p (syms.Plain op) i m = m
  means_at p (syms.Call target) i m = (m.0, m.1, reaches_at p target m.0 m.2)
  means_at p (syms.Goto target) i m = (m.0, m.1, reaches_at p target m.0 m.2)
  means_at p (syms.Table table root) i m = m

  pub words_at : (xs : List Position) (below : List ℕ) → words g (rested h j) xs below ≡ words g h xs below
  words_at [] below = refl
  words_at (p ∷ xs) below = ap (λ z. h.place p % 8192 ∷ z) (words_at xs below)

  placed_at : (image : List ℕ) → IsPlaced g h image → IsPlaced g (rested h j) image
  placed_at image x = record {
    code = λ p s e w. let c = x.code p s e w in (c.0, c.1, means_at p s c.0 c.2);
    below = x.below;
    next = x.next;
    two = x.two;
  }

  vector_at : (image : List ℕ) (hd : ℕ) → Vector g h image hd → Vector g (rested h j) image hd
  vector_at image hd v = record {
    count = v.count;
    few = v.few;
    bit = v.bit;
    saves = v.saves;
    selects = v.selects;
    low = v.low;
    high = v.high;
    field = v.field;
    goes = v.goes;
    leads = v.leads;
    page_small = v.page_small;
    restores = v.restores;
    fits = v.fits;
    within = v.within;
    within_back = v.within_back;
    clear = v.clear;
    clear_back = v.clear_back;
  }

  pub image_at : (image input : List ℕ) (hd : ℕ) (x : IsImage g h image input hd) (k : ℕ) → k ≤ x.turns → j ≡ h.halt + k → IsImage g (rested h j) image input hd
  image_at image input hd x k le is = record {
    reaches = x.reaches;
    laid = x.laid;
    placed = placed_at image x.placed;
    banked = x.banked;
    vector = λ has. vector_at image hd (x.vector has);
    outside = x.outside;
    main_depth = x.main_depth;
    depth = x.depth;
    halts = x.halts;
    turns = x.turns;
    bit = x.bit;
    selects = x.selects;
    stays = x.stays;
    halt_small = x.halt_small;
    within = x.within;
    turn = k;
    turn_small = le;
    rests = is;
    small = x.small;
  }
