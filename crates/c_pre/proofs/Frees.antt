-- The list of tokens outside directives, while it grows.
use Rattle.std.proofs.Common.{ℕ, ◌+◌, ◌-◌, ◌<◌, ◌≤◌, ◌≡◌, List, [], ◌∷◌, ◌++◌, length, take, drop, arith, subst, sym, length-take, length-drop}
use Rattle.std.specs.Prelude.{All}
use Rattle.std.proofs.lemmas.List.Elements.{All-push}
use Rattle.c_token.specs.declared.token.Tok.{Tok}
use Rattle.c_pre.specs.declared.program.Free.{Free}
use Rattle.c_pre.specs.Items.{IsFree}

pub more_known : (fs : List Free) (count more : ℕ) → All (IsFree count) fs → count ≤ more → All (IsFree more) fs
more_known fs count more a h = λ k d i. ((a k d i).0, omega (arith, (a k d i).1, h))

pub one_token : (raw : List Tok) (at : ℕ) → at < length raw → length (take (at + 1 - at) (drop at raw)) ≡ 1
one_token raw at h = omega (arith, length-take (at + 1 - at) (drop at raw), length-drop at raw)

pub one_free : (fs new : List Free) (f : Free) (count : ℕ) → new ≡ fs ++ f ∷ [] → All (IsFree count) fs → length f.token.now ≡ 1 → f.known ≤ count → All (IsFree count) new
one_free fs new f count e a l k = subst (All (IsFree count)) (sym e) (All-push (IsFree count) fs f a (l, k))

pub line_fits : (raw : List Tok) (at count : ℕ) → at < length raw → count ≤ length (take (length raw - (at + 1)) (drop (at + 1) raw)) → at + (1 + count) ≤ length raw
line_fits raw at count h b = omega (arith, b, length-take (length raw - (at + 1)) (drop (at + 1) raw), length-drop (at + 1) raw)
