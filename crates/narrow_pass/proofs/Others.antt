-- What holds of each operation but those that a function names.
use Rattle.std.proofs.Common.{◌≡◌, ℕ, Bool, true, false, List, sym, ap, ◌∙◌}
use Rattle.core_code.proofs.Views.{tree_address, tree_again, tree_binary, tree_bit_read, tree_bit_write, tree_call, tree_convert, tree_copy, tree_exit, tree_if, tree_leave, tree_load, tree_loop, tree_many, tree_set, tree_store, tree_unary}
use Rattle.core_code.specs.View.{tree_of}
use Rattle.core_code.specs.declared.code.Core.{Core}
use Rattle.core_code.specs.declared.code.Core.TheOpen as Open
use Rattle.core_code.specs.declared.code.Core.TheVariants as Core
use Rattle.core_code.specs.declared.code.Core.TheViews.{out-Core, roll-Core, roll-out-Core}
use Rattle.core_code.specs.Bytes.{Object}
use Rattle.narrow_code.specs.Checked.{Turn}
use Rattle.narrow_code.specs.Lending.{lends}
use Rattle.narrow_code.specs.Marks.{Mark}
use Rattle.narrow_pass.specs.Ways.{first_read, second_read, nothing_read, may_go, is_single, written}

reads_nothing_first_layer : (l : Open.Core-F Core) (c : Core) → roll-Core l ≡ c → ((to : _) (from : _) → c ≡ Core.Copy to from → ⊥) → ((to : _) (pointer : _) (count : _) → c ≡ Core.Load to pointer count → ⊥) → ((pointer : _) (from : _) (count : _) → c ≡ Core.Store pointer from count → ⊥) → ((op : _) (ty : _) (at : _) → c ≡ Core.Unary op ty at → ⊥) → ((op : _) (ty : _) (to : _) (left : _) (right : _) → c ≡ Core.Binary op ty to left right → ⊥) → ((from : _) (to : _) (at : _) → c ≡ Core.Convert from to at → ⊥) → ((register : _) (bit : _) (from : _) → c ≡ Core.BitWrite register bit from → ⊥) → first_read (tree_of c) ≡ nothing_read
reads_nothing_first_layer (Open.Set to value) c is no_copy no_load no_store no_unary no_binary no_convert no_bit_write = ap (λ t. first_read t) (ap tree_of (sym is ∙ Core.rolls-Set to value) ∙ tree_set to value)
reads_nothing_first_layer (Open.Address to place) c is no_copy no_load no_store no_unary no_binary no_convert no_bit_write = ap (λ t. first_read t) (ap tree_of (sym is ∙ Core.rolls-Address to place) ∙ tree_address to place)
reads_nothing_first_layer (Open.Copy to from) c is no_copy no_load no_store no_unary no_binary no_convert no_bit_write = absurd (no_copy to from (sym is ∙ Core.rolls-Copy to from))
reads_nothing_first_layer (Open.Load to pointer count) c is no_copy no_load no_store no_unary no_binary no_convert no_bit_write = absurd (no_load to pointer count (sym is ∙ Core.rolls-Load to pointer count))
reads_nothing_first_layer (Open.Store pointer from count) c is no_copy no_load no_store no_unary no_binary no_convert no_bit_write = absurd (no_store pointer from count (sym is ∙ Core.rolls-Store pointer from count))
reads_nothing_first_layer (Open.Unary op ty at) c is no_copy no_load no_store no_unary no_binary no_convert no_bit_write = absurd (no_unary op ty at (sym is ∙ Core.rolls-Unary op ty at))
reads_nothing_first_layer (Open.Binary op ty to left right) c is no_copy no_load no_store no_unary no_binary no_convert no_bit_write = absurd (no_binary op ty to left right (sym is ∙ Core.rolls-Binary op ty to left right))
reads_nothing_first_layer (Open.Convert from to at) c is no_copy no_load no_store no_unary no_binary no_convert no_bit_write = absurd (no_convert from to at (sym is ∙ Core.rolls-Convert from to at))
reads_nothing_first_layer (Open.BitRead to register bit) c is no_copy no_load no_store no_unary no_binary no_convert no_bit_write = ap (λ t. first_read t) (ap tree_of (sym is ∙ Core.rolls-BitRead to register bit) ∙ tree_bit_read to register bit)
reads_nothing_first_layer (Open.BitWrite register bit from) c is no_copy no_load no_store no_unary no_binary no_convert no_bit_write = absurd (no_bit_write register bit from (sym is ∙ Core.rolls-BitWrite register bit from))
reads_nothing_first_layer (Open.Call copy) c is no_copy no_load no_store no_unary no_binary no_convert no_bit_write = ap (λ t. first_read t) (ap tree_of (sym is ∙ Core.rolls-Call copy) ∙ tree_call copy)
reads_nothing_first_layer Open.Leave c is no_copy no_load no_store no_unary no_binary no_convert no_bit_write = ap (λ t. first_read t) (ap tree_of (sym is ∙ Core.rolls-Leave) ∙ tree_leave)
reads_nothing_first_layer (Open.Many parts) c is no_copy no_load no_store no_unary no_binary no_convert no_bit_write = ap (λ t. first_read t) (ap tree_of (sym is ∙ Core.rolls-Many parts) ∙ tree_many parts)
reads_nothing_first_layer (Open.If test size holds fails) c is no_copy no_load no_store no_unary no_binary no_convert no_bit_write = ap (λ t. first_read t) (ap tree_of (sym is ∙ Core.rolls-If test size holds fails) ∙ tree_if test size holds fails)
reads_nothing_first_layer (Open.Loop body) c is no_copy no_load no_store no_unary no_binary no_convert no_bit_write = ap (λ t. first_read t) (ap tree_of (sym is ∙ Core.rolls-Loop body) ∙ tree_loop body)
reads_nothing_first_layer (Open.Exit loops) c is no_copy no_load no_store no_unary no_binary no_convert no_bit_write = ap (λ t. first_read t) (ap tree_of (sym is ∙ Core.rolls-Exit loops) ∙ tree_exit loops)
reads_nothing_first_layer (Open.Again loops) c is no_copy no_load no_store no_unary no_binary no_convert no_bit_write = ap (λ t. first_read t) (ap tree_of (sym is ∙ Core.rolls-Again loops) ∙ tree_again loops)

-- none but these read a first run
pub reads_nothing_first : (c : Core) → ((to : _) (from : _) → c ≡ Core.Copy to from → ⊥) → ((to : _) (pointer : _) (count : _) → c ≡ Core.Load to pointer count → ⊥) → ((pointer : _) (from : _) (count : _) → c ≡ Core.Store pointer from count → ⊥) → ((op : _) (ty : _) (at : _) → c ≡ Core.Unary op ty at → ⊥) → ((op : _) (ty : _) (to : _) (left : _) (right : _) → c ≡ Core.Binary op ty to left right → ⊥) → ((from : _) (to : _) (at : _) → c ≡ Core.Convert from to at → ⊥) → ((register : _) (bit : _) (from : _) → c ≡ Core.BitWrite register bit from → ⊥) → first_read (tree_of c) ≡ nothing_read
reads_nothing_first c no_copy no_load no_store no_unary no_binary no_convert no_bit_write = reads_nothing_first_layer (out-Core c) c (roll-out-Core c) no_copy no_load no_store no_unary no_binary no_convert no_bit_write

reads_nothing_second_layer : (l : Open.Core-F Core) (c : Core) → roll-Core l ≡ c → ((pointer : _) (from : _) (count : _) → c ≡ Core.Store pointer from count → ⊥) → ((op : _) (ty : _) (to : _) (left : _) (right : _) → c ≡ Core.Binary op ty to left right → ⊥) → second_read (tree_of c) ≡ nothing_read
reads_nothing_second_layer (Open.Set to value) c is no_store no_binary = ap (λ t. second_read t) (ap tree_of (sym is ∙ Core.rolls-Set to value) ∙ tree_set to value)
reads_nothing_second_layer (Open.Address to place) c is no_store no_binary = ap (λ t. second_read t) (ap tree_of (sym is ∙ Core.rolls-Address to place) ∙ tree_address to place)
reads_nothing_second_layer (Open.Copy to from) c is no_store no_binary = ap (λ t. second_read t) (ap tree_of (sym is ∙ Core.rolls-Copy to from) ∙ tree_copy to from)
reads_nothing_second_layer (Open.Load to pointer count) c is no_store no_binary = ap (λ t. second_read t) (ap tree_of (sym is ∙ Core.rolls-Load to pointer count) ∙ tree_load to pointer count)
reads_nothing_second_layer (Open.Store pointer from count) c is no_store no_binary = absurd (no_store pointer from count (sym is ∙ Core.rolls-Store pointer from count))
reads_nothing_second_layer (Open.Unary op ty at) c is no_store no_binary = ap (λ t. second_read t) (ap tree_of (sym is ∙ Core.rolls-Unary op ty at) ∙ tree_unary op ty at)
reads_nothing_second_layer (Open.Binary op ty to left right) c is no_store no_binary = absurd (no_binary op ty to left right (sym is ∙ Core.rolls-Binary op ty to left right))
reads_nothing_second_layer (Open.Convert from to at) c is no_store no_binary = ap (λ t. second_read t) (ap tree_of (sym is ∙ Core.rolls-Convert from to at) ∙ tree_convert from to at)
reads_nothing_second_layer (Open.BitRead to register bit) c is no_store no_binary = ap (λ t. second_read t) (ap tree_of (sym is ∙ Core.rolls-BitRead to register bit) ∙ tree_bit_read to register bit)
reads_nothing_second_layer (Open.BitWrite register bit from) c is no_store no_binary = ap (λ t. second_read t) (ap tree_of (sym is ∙ Core.rolls-BitWrite register bit from) ∙ tree_bit_write register bit from)
reads_nothing_second_layer (Open.Call copy) c is no_store no_binary = ap (λ t. second_read t) (ap tree_of (sym is ∙ Core.rolls-Call copy) ∙ tree_call copy)
reads_nothing_second_layer Open.Leave c is no_store no_binary = ap (λ t. second_read t) (ap tree_of (sym is ∙ Core.rolls-Leave) ∙ tree_leave)
reads_nothing_second_layer (Open.Many parts) c is no_store no_binary = ap (λ t. second_read t) (ap tree_of (sym is ∙ Core.rolls-Many parts) ∙ tree_many parts)
reads_nothing_second_layer (Open.If test size holds fails) c is no_store no_binary = ap (λ t. second_read t) (ap tree_of (sym is ∙ Core.rolls-If test size holds fails) ∙ tree_if test size holds fails)
reads_nothing_second_layer (Open.Loop body) c is no_store no_binary = ap (λ t. second_read t) (ap tree_of (sym is ∙ Core.rolls-Loop body) ∙ tree_loop body)
reads_nothing_second_layer (Open.Exit loops) c is no_store no_binary = ap (λ t. second_read t) (ap tree_of (sym is ∙ Core.rolls-Exit loops) ∙ tree_exit loops)
reads_nothing_second_layer (Open.Again loops) c is no_store no_binary = ap (λ t. second_read t) (ap tree_of (sym is ∙ Core.rolls-Again loops) ∙ tree_again loops)

-- none but these read a second run
pub reads_nothing_second : (c : Core) → ((pointer : _) (from : _) (count : _) → c ≡ Core.Store pointer from count → ⊥) → ((op : _) (ty : _) (to : _) (left : _) (right : _) → c ≡ Core.Binary op ty to left right → ⊥) → second_read (tree_of c) ≡ nothing_read
reads_nothing_second c no_store no_binary = reads_nothing_second_layer (out-Core c) c (roll-out-Core c) no_store no_binary

goes_anywhere_layer : (l : Open.Core-F Core) (c : Core) → roll-Core l ≡ c → ((parts : _) → c ≡ Core.Many parts → ⊥) → ((test : _) (size : _) (holds : _) (fails : _) → c ≡ Core.If test size holds fails → ⊥) → ((body : _) → c ≡ Core.Loop body → ⊥) → ((loops : _) → c ≡ Core.Exit loops → ⊥) → ((loops : _) → c ≡ Core.Again loops → ⊥) → (turns : List Turn) (here : List Mark) → may_go turns here (tree_of c) ≡ true
goes_anywhere_layer (Open.Set to value) c is no_many no_if no_loop no_exit no_again turns here = ap (λ t. may_go turns here t) (ap tree_of (sym is ∙ Core.rolls-Set to value) ∙ tree_set to value)
goes_anywhere_layer (Open.Address to place) c is no_many no_if no_loop no_exit no_again turns here = ap (λ t. may_go turns here t) (ap tree_of (sym is ∙ Core.rolls-Address to place) ∙ tree_address to place)
goes_anywhere_layer (Open.Copy to from) c is no_many no_if no_loop no_exit no_again turns here = ap (λ t. may_go turns here t) (ap tree_of (sym is ∙ Core.rolls-Copy to from) ∙ tree_copy to from)
goes_anywhere_layer (Open.Load to pointer count) c is no_many no_if no_loop no_exit no_again turns here = ap (λ t. may_go turns here t) (ap tree_of (sym is ∙ Core.rolls-Load to pointer count) ∙ tree_load to pointer count)
goes_anywhere_layer (Open.Store pointer from count) c is no_many no_if no_loop no_exit no_again turns here = ap (λ t. may_go turns here t) (ap tree_of (sym is ∙ Core.rolls-Store pointer from count) ∙ tree_store pointer from count)
goes_anywhere_layer (Open.Unary op ty at) c is no_many no_if no_loop no_exit no_again turns here = ap (λ t. may_go turns here t) (ap tree_of (sym is ∙ Core.rolls-Unary op ty at) ∙ tree_unary op ty at)
goes_anywhere_layer (Open.Binary op ty to left right) c is no_many no_if no_loop no_exit no_again turns here = ap (λ t. may_go turns here t) (ap tree_of (sym is ∙ Core.rolls-Binary op ty to left right) ∙ tree_binary op ty to left right)
goes_anywhere_layer (Open.Convert from to at) c is no_many no_if no_loop no_exit no_again turns here = ap (λ t. may_go turns here t) (ap tree_of (sym is ∙ Core.rolls-Convert from to at) ∙ tree_convert from to at)
goes_anywhere_layer (Open.BitRead to register bit) c is no_many no_if no_loop no_exit no_again turns here = ap (λ t. may_go turns here t) (ap tree_of (sym is ∙ Core.rolls-BitRead to register bit) ∙ tree_bit_read to register bit)
goes_anywhere_layer (Open.BitWrite register bit from) c is no_many no_if no_loop no_exit no_again turns here = ap (λ t. may_go turns here t) (ap tree_of (sym is ∙ Core.rolls-BitWrite register bit from) ∙ tree_bit_write register bit from)
goes_anywhere_layer (Open.Call copy) c is no_many no_if no_loop no_exit no_again turns here = ap (λ t. may_go turns here t) (ap tree_of (sym is ∙ Core.rolls-Call copy) ∙ tree_call copy)
goes_anywhere_layer Open.Leave c is no_many no_if no_loop no_exit no_again turns here = ap (λ t. may_go turns here t) (ap tree_of (sym is ∙ Core.rolls-Leave) ∙ tree_leave)
goes_anywhere_layer (Open.Many parts) c is no_many no_if no_loop no_exit no_again turns here = absurd (no_many parts (sym is ∙ Core.rolls-Many parts))
goes_anywhere_layer (Open.If test size holds fails) c is no_many no_if no_loop no_exit no_again turns here = absurd (no_if test size holds fails (sym is ∙ Core.rolls-If test size holds fails))
goes_anywhere_layer (Open.Loop body) c is no_many no_if no_loop no_exit no_again turns here = absurd (no_loop body (sym is ∙ Core.rolls-Loop body))
goes_anywhere_layer (Open.Exit loops) c is no_many no_if no_loop no_exit no_again turns here = absurd (no_exit loops (sym is ∙ Core.rolls-Exit loops))
goes_anywhere_layer (Open.Again loops) c is no_many no_if no_loop no_exit no_again turns here = absurd (no_again loops (sym is ∙ Core.rolls-Again loops))

-- all but these may stand in any loop
pub goes_anywhere : (c : Core) → ((parts : _) → c ≡ Core.Many parts → ⊥) → ((test : _) (size : _) (holds : _) (fails : _) → c ≡ Core.If test size holds fails → ⊥) → ((body : _) → c ≡ Core.Loop body → ⊥) → ((loops : _) → c ≡ Core.Exit loops → ⊥) → ((loops : _) → c ≡ Core.Again loops → ⊥) → (turns : List Turn) (here : List Mark) → may_go turns here (tree_of c) ≡ true
goes_anywhere c no_many no_if no_loop no_exit no_again turns here = goes_anywhere_layer (out-Core c) c (roll-out-Core c) no_many no_if no_loop no_exit no_again turns here

lends_nothing_layer : (l : Open.Core-F Core) (c : Core) → roll-Core l ≡ c → ((to : _) (place : _) → c ≡ Core.Address to place → ⊥) → ((parts : _) → c ≡ Core.Many parts → ⊥) → ((test : _) (size : _) (holds : _) (fails : _) → c ≡ Core.If test size holds fails → ⊥) → ((body : _) → c ≡ Core.Loop body → ⊥) → (lent : Object → Bool) → lends lent (tree_of c) ≡ true
lends_nothing_layer (Open.Set to value) c is no_address no_many no_if no_loop lent = ap (λ t. lends lent t) (ap tree_of (sym is ∙ Core.rolls-Set to value) ∙ tree_set to value)
lends_nothing_layer (Open.Address to place) c is no_address no_many no_if no_loop lent = absurd (no_address to place (sym is ∙ Core.rolls-Address to place))
lends_nothing_layer (Open.Copy to from) c is no_address no_many no_if no_loop lent = ap (λ t. lends lent t) (ap tree_of (sym is ∙ Core.rolls-Copy to from) ∙ tree_copy to from)
lends_nothing_layer (Open.Load to pointer count) c is no_address no_many no_if no_loop lent = ap (λ t. lends lent t) (ap tree_of (sym is ∙ Core.rolls-Load to pointer count) ∙ tree_load to pointer count)
lends_nothing_layer (Open.Store pointer from count) c is no_address no_many no_if no_loop lent = ap (λ t. lends lent t) (ap tree_of (sym is ∙ Core.rolls-Store pointer from count) ∙ tree_store pointer from count)
lends_nothing_layer (Open.Unary op ty at) c is no_address no_many no_if no_loop lent = ap (λ t. lends lent t) (ap tree_of (sym is ∙ Core.rolls-Unary op ty at) ∙ tree_unary op ty at)
lends_nothing_layer (Open.Binary op ty to left right) c is no_address no_many no_if no_loop lent = ap (λ t. lends lent t) (ap tree_of (sym is ∙ Core.rolls-Binary op ty to left right) ∙ tree_binary op ty to left right)
lends_nothing_layer (Open.Convert from to at) c is no_address no_many no_if no_loop lent = ap (λ t. lends lent t) (ap tree_of (sym is ∙ Core.rolls-Convert from to at) ∙ tree_convert from to at)
lends_nothing_layer (Open.BitRead to register bit) c is no_address no_many no_if no_loop lent = ap (λ t. lends lent t) (ap tree_of (sym is ∙ Core.rolls-BitRead to register bit) ∙ tree_bit_read to register bit)
lends_nothing_layer (Open.BitWrite register bit from) c is no_address no_many no_if no_loop lent = ap (λ t. lends lent t) (ap tree_of (sym is ∙ Core.rolls-BitWrite register bit from) ∙ tree_bit_write register bit from)
lends_nothing_layer (Open.Call copy) c is no_address no_many no_if no_loop lent = ap (λ t. lends lent t) (ap tree_of (sym is ∙ Core.rolls-Call copy) ∙ tree_call copy)
lends_nothing_layer Open.Leave c is no_address no_many no_if no_loop lent = ap (λ t. lends lent t) (ap tree_of (sym is ∙ Core.rolls-Leave) ∙ tree_leave)
lends_nothing_layer (Open.Many parts) c is no_address no_many no_if no_loop lent = absurd (no_many parts (sym is ∙ Core.rolls-Many parts))
lends_nothing_layer (Open.If test size holds fails) c is no_address no_many no_if no_loop lent = absurd (no_if test size holds fails (sym is ∙ Core.rolls-If test size holds fails))
lends_nothing_layer (Open.Loop body) c is no_address no_many no_if no_loop lent = absurd (no_loop body (sym is ∙ Core.rolls-Loop body))
lends_nothing_layer (Open.Exit loops) c is no_address no_many no_if no_loop lent = ap (λ t. lends lent t) (ap tree_of (sym is ∙ Core.rolls-Exit loops) ∙ tree_exit loops)
lends_nothing_layer (Open.Again loops) c is no_address no_many no_if no_loop lent = ap (λ t. lends lent t) (ap tree_of (sym is ∙ Core.rolls-Again loops) ∙ tree_again loops)

-- all but these take no address
pub lends_nothing : (c : Core) → ((to : _) (place : _) → c ≡ Core.Address to place → ⊥) → ((parts : _) → c ≡ Core.Many parts → ⊥) → ((test : _) (size : _) (holds : _) (fails : _) → c ≡ Core.If test size holds fails → ⊥) → ((body : _) → c ≡ Core.Loop body → ⊥) → (lent : Object → Bool) → lends lent (tree_of c) ≡ true
lends_nothing c no_address no_many no_if no_loop lent = lends_nothing_layer (out-Core c) c (roll-out-Core c) no_address no_many no_if no_loop lent

leaves_marks_layer : (l : Open.Core-F Core) (c : Core) → roll-Core l ≡ c → ((to : _) (value : _) → c ≡ Core.Set to value → ⊥) → ((to : _) (place : _) → c ≡ Core.Address to place → ⊥) → ((to : _) (from : _) → c ≡ Core.Copy to from → ⊥) → ((to : _) (pointer : _) (count : _) → c ≡ Core.Load to pointer count → ⊥) → ((op : _) (ty : _) (at : _) → c ≡ Core.Unary op ty at → ⊥) → ((op : _) (ty : _) (to : _) (left : _) (right : _) → c ≡ Core.Binary op ty to left right → ⊥) → ((from : _) (to : _) (at : _) → c ≡ Core.Convert from to at → ⊥) → ((to : _) (register : _) (bit : _) → c ≡ Core.BitRead to register bit → ⊥) → (c ≡ Core.Leave → ⊥) → ((loops : _) → c ≡ Core.Exit loops → ⊥) → ((loops : _) → c ≡ Core.Again loops → ⊥) → (lent : ℕ → Bool) (p : ℕ) (here : List Mark) → written lent p here (tree_of c) ≡ here
leaves_marks_layer (Open.Set to value) c is no_set no_address no_copy no_load no_unary no_binary no_convert no_bit_read no_leave no_exit no_again lent p here = absurd (no_set to value (sym is ∙ Core.rolls-Set to value))
leaves_marks_layer (Open.Address to place) c is no_set no_address no_copy no_load no_unary no_binary no_convert no_bit_read no_leave no_exit no_again lent p here = absurd (no_address to place (sym is ∙ Core.rolls-Address to place))
leaves_marks_layer (Open.Copy to from) c is no_set no_address no_copy no_load no_unary no_binary no_convert no_bit_read no_leave no_exit no_again lent p here = absurd (no_copy to from (sym is ∙ Core.rolls-Copy to from))
leaves_marks_layer (Open.Load to pointer count) c is no_set no_address no_copy no_load no_unary no_binary no_convert no_bit_read no_leave no_exit no_again lent p here = absurd (no_load to pointer count (sym is ∙ Core.rolls-Load to pointer count))
leaves_marks_layer (Open.Store pointer from count) c is no_set no_address no_copy no_load no_unary no_binary no_convert no_bit_read no_leave no_exit no_again lent p here = ap (λ t. written lent p here t) (ap tree_of (sym is ∙ Core.rolls-Store pointer from count) ∙ tree_store pointer from count)
leaves_marks_layer (Open.Unary op ty at) c is no_set no_address no_copy no_load no_unary no_binary no_convert no_bit_read no_leave no_exit no_again lent p here = absurd (no_unary op ty at (sym is ∙ Core.rolls-Unary op ty at))
leaves_marks_layer (Open.Binary op ty to left right) c is no_set no_address no_copy no_load no_unary no_binary no_convert no_bit_read no_leave no_exit no_again lent p here = absurd (no_binary op ty to left right (sym is ∙ Core.rolls-Binary op ty to left right))
leaves_marks_layer (Open.Convert from to at) c is no_set no_address no_copy no_load no_unary no_binary no_convert no_bit_read no_leave no_exit no_again lent p here = absurd (no_convert from to at (sym is ∙ Core.rolls-Convert from to at))
leaves_marks_layer (Open.BitRead to register bit) c is no_set no_address no_copy no_load no_unary no_binary no_convert no_bit_read no_leave no_exit no_again lent p here = absurd (no_bit_read to register bit (sym is ∙ Core.rolls-BitRead to register bit))
leaves_marks_layer (Open.BitWrite register bit from) c is no_set no_address no_copy no_load no_unary no_binary no_convert no_bit_read no_leave no_exit no_again lent p here = ap (λ t. written lent p here t) (ap tree_of (sym is ∙ Core.rolls-BitWrite register bit from) ∙ tree_bit_write register bit from)
leaves_marks_layer (Open.Call copy) c is no_set no_address no_copy no_load no_unary no_binary no_convert no_bit_read no_leave no_exit no_again lent p here = ap (λ t. written lent p here t) (ap tree_of (sym is ∙ Core.rolls-Call copy) ∙ tree_call copy)
leaves_marks_layer Open.Leave c is no_set no_address no_copy no_load no_unary no_binary no_convert no_bit_read no_leave no_exit no_again lent p here = absurd (no_leave (sym is ∙ Core.rolls-Leave))
leaves_marks_layer (Open.Many parts) c is no_set no_address no_copy no_load no_unary no_binary no_convert no_bit_read no_leave no_exit no_again lent p here = ap (λ t. written lent p here t) (ap tree_of (sym is ∙ Core.rolls-Many parts) ∙ tree_many parts)
leaves_marks_layer (Open.If test size holds fails) c is no_set no_address no_copy no_load no_unary no_binary no_convert no_bit_read no_leave no_exit no_again lent p here = ap (λ t. written lent p here t) (ap tree_of (sym is ∙ Core.rolls-If test size holds fails) ∙ tree_if test size holds fails)
leaves_marks_layer (Open.Loop body) c is no_set no_address no_copy no_load no_unary no_binary no_convert no_bit_read no_leave no_exit no_again lent p here = ap (λ t. written lent p here t) (ap tree_of (sym is ∙ Core.rolls-Loop body) ∙ tree_loop body)
leaves_marks_layer (Open.Exit loops) c is no_set no_address no_copy no_load no_unary no_binary no_convert no_bit_read no_leave no_exit no_again lent p here = absurd (no_exit loops (sym is ∙ Core.rolls-Exit loops))
leaves_marks_layer (Open.Again loops) c is no_set no_address no_copy no_load no_unary no_binary no_convert no_bit_read no_leave no_exit no_again lent p here = absurd (no_again loops (sym is ∙ Core.rolls-Again loops))

-- behind all but these the same is known
pub leaves_marks : (c : Core) → ((to : _) (value : _) → c ≡ Core.Set to value → ⊥) → ((to : _) (place : _) → c ≡ Core.Address to place → ⊥) → ((to : _) (from : _) → c ≡ Core.Copy to from → ⊥) → ((to : _) (pointer : _) (count : _) → c ≡ Core.Load to pointer count → ⊥) → ((op : _) (ty : _) (at : _) → c ≡ Core.Unary op ty at → ⊥) → ((op : _) (ty : _) (to : _) (left : _) (right : _) → c ≡ Core.Binary op ty to left right → ⊥) → ((from : _) (to : _) (at : _) → c ≡ Core.Convert from to at → ⊥) → ((to : _) (register : _) (bit : _) → c ≡ Core.BitRead to register bit → ⊥) → (c ≡ Core.Leave → ⊥) → ((loops : _) → c ≡ Core.Exit loops → ⊥) → ((loops : _) → c ≡ Core.Again loops → ⊥) → (lent : ℕ → Bool) (p : ℕ) (here : List Mark) → written lent p here (tree_of c) ≡ here
leaves_marks c no_set no_address no_copy no_load no_unary no_binary no_convert no_bit_read no_leave no_exit no_again lent p here = leaves_marks_layer (out-Core c) c (roll-out-Core c) no_set no_address no_copy no_load no_unary no_binary no_convert no_bit_read no_leave no_exit no_again lent p here

has_no_parts_layer : (l : Open.Core-F Core) (c : Core) → roll-Core l ≡ c → ((parts : _) → c ≡ Core.Many parts → ⊥) → ((test : _) (size : _) (holds : _) (fails : _) → c ≡ Core.If test size holds fails → ⊥) → ((body : _) → c ≡ Core.Loop body → ⊥) → is_single (tree_of c) ≡ true
has_no_parts_layer (Open.Set to value) c is no_many no_if no_loop = ap (λ t. is_single t) (ap tree_of (sym is ∙ Core.rolls-Set to value) ∙ tree_set to value)
has_no_parts_layer (Open.Address to place) c is no_many no_if no_loop = ap (λ t. is_single t) (ap tree_of (sym is ∙ Core.rolls-Address to place) ∙ tree_address to place)
has_no_parts_layer (Open.Copy to from) c is no_many no_if no_loop = ap (λ t. is_single t) (ap tree_of (sym is ∙ Core.rolls-Copy to from) ∙ tree_copy to from)
has_no_parts_layer (Open.Load to pointer count) c is no_many no_if no_loop = ap (λ t. is_single t) (ap tree_of (sym is ∙ Core.rolls-Load to pointer count) ∙ tree_load to pointer count)
has_no_parts_layer (Open.Store pointer from count) c is no_many no_if no_loop = ap (λ t. is_single t) (ap tree_of (sym is ∙ Core.rolls-Store pointer from count) ∙ tree_store pointer from count)
has_no_parts_layer (Open.Unary op ty at) c is no_many no_if no_loop = ap (λ t. is_single t) (ap tree_of (sym is ∙ Core.rolls-Unary op ty at) ∙ tree_unary op ty at)
has_no_parts_layer (Open.Binary op ty to left right) c is no_many no_if no_loop = ap (λ t. is_single t) (ap tree_of (sym is ∙ Core.rolls-Binary op ty to left right) ∙ tree_binary op ty to left right)
has_no_parts_layer (Open.Convert from to at) c is no_many no_if no_loop = ap (λ t. is_single t) (ap tree_of (sym is ∙ Core.rolls-Convert from to at) ∙ tree_convert from to at)
has_no_parts_layer (Open.BitRead to register bit) c is no_many no_if no_loop = ap (λ t. is_single t) (ap tree_of (sym is ∙ Core.rolls-BitRead to register bit) ∙ tree_bit_read to register bit)
has_no_parts_layer (Open.BitWrite register bit from) c is no_many no_if no_loop = ap (λ t. is_single t) (ap tree_of (sym is ∙ Core.rolls-BitWrite register bit from) ∙ tree_bit_write register bit from)
has_no_parts_layer (Open.Call copy) c is no_many no_if no_loop = ap (λ t. is_single t) (ap tree_of (sym is ∙ Core.rolls-Call copy) ∙ tree_call copy)
has_no_parts_layer Open.Leave c is no_many no_if no_loop = ap (λ t. is_single t) (ap tree_of (sym is ∙ Core.rolls-Leave) ∙ tree_leave)
has_no_parts_layer (Open.Many parts) c is no_many no_if no_loop = absurd (no_many parts (sym is ∙ Core.rolls-Many parts))
has_no_parts_layer (Open.If test size holds fails) c is no_many no_if no_loop = absurd (no_if test size holds fails (sym is ∙ Core.rolls-If test size holds fails))
has_no_parts_layer (Open.Loop body) c is no_many no_if no_loop = absurd (no_loop body (sym is ∙ Core.rolls-Loop body))
has_no_parts_layer (Open.Exit loops) c is no_many no_if no_loop = ap (λ t. is_single t) (ap tree_of (sym is ∙ Core.rolls-Exit loops) ∙ tree_exit loops)
has_no_parts_layer (Open.Again loops) c is no_many no_if no_loop = ap (λ t. is_single t) (ap tree_of (sym is ∙ Core.rolls-Again loops) ∙ tree_again loops)

-- all but these have no parts
pub has_no_parts : (c : Core) → ((parts : _) → c ≡ Core.Many parts → ⊥) → ((test : _) (size : _) (holds : _) (fails : _) → c ≡ Core.If test size holds fails → ⊥) → ((body : _) → c ≡ Core.Loop body → ⊥) → is_single (tree_of c) ≡ true
has_no_parts c no_many no_if no_loop = has_no_parts_layer (out-Core c) c (roll-out-Core c) no_many no_if no_loop

has_parts_layer : (l : Open.Core-F Core) (c : Core) → roll-Core l ≡ c → ((to : _) (value : _) → c ≡ Core.Set to value → ⊥) → ((to : _) (place : _) → c ≡ Core.Address to place → ⊥) → ((to : _) (from : _) → c ≡ Core.Copy to from → ⊥) → ((to : _) (pointer : _) (count : _) → c ≡ Core.Load to pointer count → ⊥) → ((pointer : _) (from : _) (count : _) → c ≡ Core.Store pointer from count → ⊥) → ((op : _) (ty : _) (at : _) → c ≡ Core.Unary op ty at → ⊥) → ((op : _) (ty : _) (to : _) (left : _) (right : _) → c ≡ Core.Binary op ty to left right → ⊥) → ((from : _) (to : _) (at : _) → c ≡ Core.Convert from to at → ⊥) → ((to : _) (register : _) (bit : _) → c ≡ Core.BitRead to register bit → ⊥) → ((register : _) (bit : _) (from : _) → c ≡ Core.BitWrite register bit from → ⊥) → ((copy : _) → c ≡ Core.Call copy → ⊥) → (c ≡ Core.Leave → ⊥) → ((loops : _) → c ≡ Core.Exit loops → ⊥) → ((loops : _) → c ≡ Core.Again loops → ⊥) → is_single (tree_of c) ≡ true → false ≡ true
has_parts_layer (Open.Set to value) c is no_set no_address no_copy no_load no_store no_unary no_binary no_convert no_bit_read no_bit_write no_call no_leave no_exit no_again e = absurd (no_set to value (sym is ∙ Core.rolls-Set to value))
has_parts_layer (Open.Address to place) c is no_set no_address no_copy no_load no_store no_unary no_binary no_convert no_bit_read no_bit_write no_call no_leave no_exit no_again e = absurd (no_address to place (sym is ∙ Core.rolls-Address to place))
has_parts_layer (Open.Copy to from) c is no_set no_address no_copy no_load no_store no_unary no_binary no_convert no_bit_read no_bit_write no_call no_leave no_exit no_again e = absurd (no_copy to from (sym is ∙ Core.rolls-Copy to from))
has_parts_layer (Open.Load to pointer count) c is no_set no_address no_copy no_load no_store no_unary no_binary no_convert no_bit_read no_bit_write no_call no_leave no_exit no_again e = absurd (no_load to pointer count (sym is ∙ Core.rolls-Load to pointer count))
has_parts_layer (Open.Store pointer from count) c is no_set no_address no_copy no_load no_store no_unary no_binary no_convert no_bit_read no_bit_write no_call no_leave no_exit no_again e = absurd (no_store pointer from count (sym is ∙ Core.rolls-Store pointer from count))
has_parts_layer (Open.Unary op ty at) c is no_set no_address no_copy no_load no_store no_unary no_binary no_convert no_bit_read no_bit_write no_call no_leave no_exit no_again e = absurd (no_unary op ty at (sym is ∙ Core.rolls-Unary op ty at))
has_parts_layer (Open.Binary op ty to left right) c is no_set no_address no_copy no_load no_store no_unary no_binary no_convert no_bit_read no_bit_write no_call no_leave no_exit no_again e = absurd (no_binary op ty to left right (sym is ∙ Core.rolls-Binary op ty to left right))
has_parts_layer (Open.Convert from to at) c is no_set no_address no_copy no_load no_store no_unary no_binary no_convert no_bit_read no_bit_write no_call no_leave no_exit no_again e = absurd (no_convert from to at (sym is ∙ Core.rolls-Convert from to at))
has_parts_layer (Open.BitRead to register bit) c is no_set no_address no_copy no_load no_store no_unary no_binary no_convert no_bit_read no_bit_write no_call no_leave no_exit no_again e = absurd (no_bit_read to register bit (sym is ∙ Core.rolls-BitRead to register bit))
has_parts_layer (Open.BitWrite register bit from) c is no_set no_address no_copy no_load no_store no_unary no_binary no_convert no_bit_read no_bit_write no_call no_leave no_exit no_again e = absurd (no_bit_write register bit from (sym is ∙ Core.rolls-BitWrite register bit from))
has_parts_layer (Open.Call copy) c is no_set no_address no_copy no_load no_store no_unary no_binary no_convert no_bit_read no_bit_write no_call no_leave no_exit no_again e = absurd (no_call copy (sym is ∙ Core.rolls-Call copy))
has_parts_layer Open.Leave c is no_set no_address no_copy no_load no_store no_unary no_binary no_convert no_bit_read no_bit_write no_call no_leave no_exit no_again e = absurd (no_leave (sym is ∙ Core.rolls-Leave))
has_parts_layer (Open.Many parts) c is no_set no_address no_copy no_load no_store no_unary no_binary no_convert no_bit_read no_bit_write no_call no_leave no_exit no_again e = sym (ap (λ t. is_single t) (ap tree_of (sym is ∙ Core.rolls-Many parts) ∙ tree_many parts)) ∙ e
has_parts_layer (Open.If test size holds fails) c is no_set no_address no_copy no_load no_store no_unary no_binary no_convert no_bit_read no_bit_write no_call no_leave no_exit no_again e = sym (ap (λ t. is_single t) (ap tree_of (sym is ∙ Core.rolls-If test size holds fails) ∙ tree_if test size holds fails)) ∙ e
has_parts_layer (Open.Loop body) c is no_set no_address no_copy no_load no_store no_unary no_binary no_convert no_bit_read no_bit_write no_call no_leave no_exit no_again e = sym (ap (λ t. is_single t) (ap tree_of (sym is ∙ Core.rolls-Loop body) ∙ tree_loop body)) ∙ e
has_parts_layer (Open.Exit loops) c is no_set no_address no_copy no_load no_store no_unary no_binary no_convert no_bit_read no_bit_write no_call no_leave no_exit no_again e = absurd (no_exit loops (sym is ∙ Core.rolls-Exit loops))
has_parts_layer (Open.Again loops) c is no_set no_address no_copy no_load no_store no_unary no_binary no_convert no_bit_read no_bit_write no_call no_leave no_exit no_again e = absurd (no_again loops (sym is ∙ Core.rolls-Again loops))

-- all but these have parts
pub has_parts : (c : Core) → ((to : _) (value : _) → c ≡ Core.Set to value → ⊥) → ((to : _) (place : _) → c ≡ Core.Address to place → ⊥) → ((to : _) (from : _) → c ≡ Core.Copy to from → ⊥) → ((to : _) (pointer : _) (count : _) → c ≡ Core.Load to pointer count → ⊥) → ((pointer : _) (from : _) (count : _) → c ≡ Core.Store pointer from count → ⊥) → ((op : _) (ty : _) (at : _) → c ≡ Core.Unary op ty at → ⊥) → ((op : _) (ty : _) (to : _) (left : _) (right : _) → c ≡ Core.Binary op ty to left right → ⊥) → ((from : _) (to : _) (at : _) → c ≡ Core.Convert from to at → ⊥) → ((to : _) (register : _) (bit : _) → c ≡ Core.BitRead to register bit → ⊥) → ((register : _) (bit : _) (from : _) → c ≡ Core.BitWrite register bit from → ⊥) → ((copy : _) → c ≡ Core.Call copy → ⊥) → (c ≡ Core.Leave → ⊥) → ((loops : _) → c ≡ Core.Exit loops → ⊥) → ((loops : _) → c ≡ Core.Again loops → ⊥) → is_single (tree_of c) ≡ true → false ≡ true
has_parts c no_set no_address no_copy no_load no_store no_unary no_binary no_convert no_bit_read no_bit_write no_call no_leave no_exit no_again e = has_parts_layer (out-Core c) c (roll-out-Core c) no_set no_address no_copy no_load no_store no_unary no_binary no_convert no_bit_read no_bit_write no_call no_leave no_exit no_again e
