-- A file that is written grows by each piece.
use Rattle.std.proofs.Common.{◌≡◌, ℕ, ◌+◌, List, [], ◌++◌, take, drop, Bool, true, false, Option, Some, None, option_map, refl, sym, ◌∙◌, ap, append_assoc}
use mathlib.Core.Path.{fun_ext}
use Rattle.std.specs.Str.{bytes_eq}
use Rattle.std.specs.Prelude.{if◌then◌else◌, unwrap_or}
use Rattle.std.proofs.lemmas.Slice.Eq.{bytes_eq-Decides}
use Rattle.std.proofs.lemmas.List.{append-nil}
use Rattle.std.proofs.Math.Seq.{take-add}
use Rattle.host_io.specs.Host.{Contents, OpenFile, Writing, told, bytes_of, put, append, Grows}

bytes_eq-refl : (name : List ℕ) → bytes_eq name name ≡ true
bytes_eq-refl name = (bytes_eq-Decides name name).1 refl

choice-again : (b : Bool) (new old : List ℕ) (other : Option (List ℕ)) → (if b then Some new else (if b then Some old else other)) ≡ (if b then Some new else other)
choice-again true new old other = refl
choice-again false new old other = refl

put-put : (name new old : List ℕ) (contents : Contents) → put name new (put name old contents) ≡ put name new contents
put-put name new old contents = fun_ext (λ other. choice-again (bytes_eq name other) new old (contents other))

bytes_of-put : (name bytes : List ℕ) (contents : Contents) → bytes_of (put name bytes contents) name ≡ bytes
bytes_of-put name bytes contents = ap (λ (b : Bool). unwrap_or (if b then Some bytes else contents name) []) (bytes_eq-refl name)

append-put : (start : Option Contents) (name front more : List ℕ)
    → option_map (append (Writing (told start name)) more) (option_map (put name front) start) ≡ option_map (put name (front ++ more)) start
append-put None name front more = refl
append-put (Some contents) name front more =
    ap Some (put-put name (bytes_of (put name front contents) name ++ more) front contents
    ∙ ap (λ (bytes : List ℕ). put name (bytes ++ more) contents) (bytes_of-put name front contents))

pub grows_none : (file : OpenFile) (old new : Option Contents) → new ≡ old → Grows file old new []
grows_none file old new same = λ start name front writing.
    record { file_is = writing.file_is; contents_are = same ∙ writing.contents_are ∙ ap (λ (bytes : List ℕ). option_map (put name bytes) start) (sym (append-nil front)) }

pub grows_more : (file now : OpenFile) (old mid new : Option Contents) (bytes : List ℕ) (done n : ℕ) → now ≡ file
    → Grows file old mid (take done bytes) → new ≡ option_map (append now (take n (drop done bytes))) mid → Grows file old new (take (done + n) bytes)
grows_more file now old mid new bytes done n same grown more = λ start name front writing.
    let so_far = grown start name front writing in
    let piece = take n (drop done bytes) in
    record {
      file_is = writing.file_is;
      contents_are = more
          ∙ ap (λ (f : OpenFile). option_map (append f piece) mid) (same ∙ writing.file_is)
          ∙ ap (λ (c : Option Contents). option_map (append (Writing (told start name)) piece) c) so_far.contents_are
          ∙ append-put start name (front ++ take done bytes) piece
          ∙ ap (λ (b : List ℕ). option_map (put name b) start) (append_assoc front (take done bytes) piece ∙ ap (λ (b : List ℕ). front ++ b) (sym (take-add done n bytes)));
    }
