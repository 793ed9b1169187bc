-- Names of types are marked, and all other names stay names.
use Rattle.std.proofs.Common.{◌≡◌, ℕ, suc, Bool, true, false, if◌then◌else◌, List, [], ◌∷◌, Ok, arith}
use Rattle.std.specs.List.{All}
use Rattle.std.proofs.lemmas.Bool.{false≢true}
use Rattle.c_token.specs.Longest.{is_word, IsLongestIn}
use Rattle.c_token.specs.Text.{tokens_of}
use Rattle.c_token.specs.declared.token.Tok.{Tok}
use Rattle.c_token.specs.declared.token.TokKind.{TokKind}
use Rattle.c_token.specs.declared.token.TokKind.TheVariants as kind
use Rattle.c_token.proofs.LongestTokens.{each}
use Rattle.c_nodes.specs.Kinds.{is_name}
use Rattle.c_pre.specs.Items.{program_of}
use Rattle.c_pre.specs.Words.{word_of}
use Rattle.c_parse.specs.Marks.{Marking, nothing_marked, is_marked, marked_token, known_behind, marked_from, marked}
use Rattle.parse_expr.specs.Reader.{spells, symbols_in}
use Rattle.program_laws.specs.Named.{AreWords}
use Rattle.program_laws.proofs.Fronts.{Spelt, raw_spelt}
use Rattle.program_laws.proofs.Replaced.{Good, program_good}

-- a name spells its bytes
name_spells : (k : TokKind) (word : List ℕ) → is_name k ≡ true → is_word word ≡ true → is_word (if spells k then word else []) ≡ true
name_spells kind.Name word name is = is
name_spells _ word name is = absurd (false≢true name)

module _ (text : List ℕ) where
  raw_good : (ts : List Tok) → All (IsLongestIn text) ts → Good text ts
  raw_good [] all = tt
  raw_good (t ∷ ts) all = (raw_spelt text t (all 0 t (omega arith)), raw_good ts (λ k d lt. all (suc k) d (omega (arith, lt))))

  marked_one : (b : Bool) (t : Tok) → Spelt text t → Spelt text (if b then record t { kind = kind.TypeName } else t)
  marked_one true t good name = absurd (false≢true name)
  marked_one false t good name = good name

  marked_good : (ts : List Tok) (m : Marking) → Good text ts → Good text (marked_from text m ts)
  unfolding marked_from
  marked_good [] m good = tt
  marked_good (t ∷ ts) m good = (marked_one (is_marked text m t) t good.0, marked_good ts (known_behind text m (marked_token text m t)) good.1)

  good_words : (ts : List Tok) → Good text ts → AreWords (symbols_in text ts)
  good_words [] good = tt
  good_words (t ∷ ts) good = (λ name. name_spells t.kind (word_of text t) name (good.0 name), good_words ts good.1)

pub tokens_words : (text : List ℕ) (raw toks : List Tok) → tokens_of text ≡ Ok raw → program_of text raw ≡ Ok toks → AreWords (symbols_in text (marked text toks))
tokens_words text raw toks is left = good_words text (marked text toks) (marked_good text toks nothing_marked (program_good text raw toks (raw_good text raw (each text raw is)) left))
