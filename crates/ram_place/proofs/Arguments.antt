-- The temporary bytes of the arguments of a call, one argument after the other.
use Rattle.std.proofs.Common.{◌≡◌, ℕ, ◌+◌, ◌<◌, ◌^◌, max, List, [], ◌∷◌, map, length, get_or, drop, refl, sym, ap, ◌∙◌, arith}
use Rattle.c_typed.specs.declared.expression.TExpr.{TExpr}
use Rattle.c_typed.specs.Nodes.{capped}
use Rattle.c_typed.specs.Room.{room, arguments_room, arguments_bytes}
use Rattle.c_typed.specs.Types.{value_bytes}
use Rattle.c_typed.specs.Views.{expression_of, arguments_of}
use Rattle.std.proofs.lemmas.List.{at_drop_more}

-- the bytes of some arguments
abbrev pub bytes_in : List ℕ → List TExpr → ℕ
bytes_in sizes es = arguments_bytes sizes (arguments_of (map expression_of es))

abbrev pub expression_bytes : List ℕ → TExpr → ℕ
expression_bytes sizes e = value_bytes sizes (expression_of e)

pub bytes_none : (sizes : List ℕ) → bytes_in sizes [] ≡ 0
bytes_none sizes = refl

pub bytes_more : (sizes : List ℕ) (e : TExpr) (es : List TExpr) → bytes_in sizes (e ∷ es) ≡ expression_bytes sizes e + bytes_in sizes es
bytes_more sizes e es = refl

-- the temporary bytes of some arguments behind others
abbrev pub room_in : List ℕ → ℕ → List TExpr → ℕ
room_in sizes before es = arguments_room sizes before (arguments_of (map expression_of es))

pub room_none : (sizes : List ℕ) (before : ℕ) → room_in sizes before [] ≡ 0
unfolding arguments_room
room_none sizes before = refl

pub room_more : (sizes : List ℕ) (before : ℕ) (e : TExpr) (es : List TExpr) → room_in sizes before (e ∷ es) ≡ max (before + room sizes (expression_of e)) (room_in sizes (before + expression_bytes sizes e) es)
unfolding arguments_room
room_more sizes before e es = refl

one_max : (a b c d : ℕ) → capped a ≡ capped b → capped c ≡ capped d → capped (max a c) ≡ capped (max b d)
one_max a b c d h k = omega (arith, h, k)

-- What stands before them counts as far as a number holds it.
pub room_capped : (sizes : List ℕ) (before : ℕ) (es : List TExpr) → capped (room_in sizes (capped before) es) ≡ capped (room_in sizes before es)
room_capped sizes before [] = ap capped (room_none sizes (capped before) ∙ sym (room_none sizes before))
room_capped sizes before (e ∷ es) =
    let w : ℕ = expression_bytes sizes e in
    let r : ℕ = room sizes (expression_of e) in
    let same : capped (capped before + w) ≡ capped (before + w) = omega arith in
    let rest : capped (room_in sizes (capped before + w) es) ≡ capped (room_in sizes (before + w) es) = sym (room_capped sizes (capped before + w) es) ∙ (ap (λ n. capped (room_in sizes n es)) same ∙ room_capped sizes (before + w) es) in
    ap capped (room_more sizes (capped before) e es) ∙ (one_max (capped before + r) (before + r) _ _ (omega arith) rest ∙ sym (ap capped (room_more sizes before e es)))

stepped : (sizes : List ℕ) (es : List TExpr) (greatest before w r now after left whole : ℕ) → left ≡ max (before + r) (room_in sizes (before + w) es) → now ≡ max greatest (capped (before + capped r)) → after ≡ capped (before + w) → capped (max greatest left) ≡ capped whole → capped (max now (room_in sizes after es)) ≡ capped whole
stepped sizes es greatest before w r now after left whole is put behind so_far =
    let rest : capped (room_in sizes after es) ≡ capped (room_in sizes (before + w) es) = ap (λ n. capped (room_in sizes n es)) behind ∙ room_capped sizes (before + w) es in
    omega (arith, is, put, rest, so_far)

-- one argument more
pub one_argument : (sizes : List ℕ) (xs : List TExpr) (i : ℕ) (x : TExpr) (now after greatest before r w m b whole : ℕ) → i < length xs → x ≡ get_or xs i x → r ≡ capped (room sizes (expression_of x)) → m ≡ capped (before + r) → now ≡ max greatest m → w ≡ expression_bytes sizes x → after ≡ capped (before + w) → now < 2 ^ 64 → (greatest < 2 ^ 64) × (capped (max greatest (room_in sizes before (drop i xs))) ≡ capped whole) → (now < 2 ^ 64) × (capped (max now (room_in sizes after (drop (i + 1) xs))) ≡ capped whole)
one_argument sizes xs i x now after greatest before r w m b whole lt is made sum put bytes behind fits so_far = (
  fits,
  stepped sizes (drop (i + 1) xs) greatest before (expression_bytes sizes x) (room sizes (expression_of x)) now after (room_in sizes before (drop i xs)) whole
      (at_drop_more (room_in sizes before) xs i x lt ∙ (ap (λ y. room_in sizes before (y ∷ drop (i + 1) xs)) (sym is) ∙ room_more sizes before x (drop (i + 1) xs)))
      (put ∙ ap (max greatest) (sum ∙ ap (λ n. capped (before + n)) made)) (behind ∙ ap (λ n. capped (before + n)) bytes) so_far.1,
)
