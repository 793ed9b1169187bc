-- Small units as trees. All tokens stand on line 1, if nothing else is said.
use Rattle.std.specs.Prelude.{ℕ, false, List, [], ◌∷◌, Some, None, codes}
use Rattle.c_token.specs.declared.token.Keyword.{Keyword}
use Rattle.c_token.specs.declared.token.Keyword.TheVariants as words
use Rattle.c_token.specs.declared.token.Punct.{Punct}
use Rattle.c_token.specs.declared.token.Punct.TheVariants as marks
use Rattle.c_token.specs.declared.token.TokKind.TheVariants as kinds
use Rattle.c_nodes.specs.Programs.{InitTree, DeclarationTree, Statements, BlockTree, ItemTree}
use Rattle.c_nodes.specs.Programs as unit
use Rattle.c_nodes.specs.Trees.{Tree, SpecTrees, SpecTree, EnumeratorTree, MoreEnumerators, DeclaratorTree, SuffixTree, ParamTree}
use Rattle.c_nodes.specs.Trees as tree
use Rattle.c_nodes.specs.Words.{Symbol, Symbols, plain, key, punct}

-- ---- parts
abbrev pub named_at : ℕ → List ℕ → Symbol
named_at line bytes = record { kind = kinds.Name; bytes = bytes; line = line }

abbrev pub named : List ℕ → Symbol
named bytes = named_at 1 bytes

abbrev pub variable : List ℕ → Tree
variable bytes = tree.Leaf (named bytes)

abbrev pub number : ℕ → Tree
number n = tree.Leaf (plain (kinds.Int n 10 false false) 1)

abbrev pub joined : Punct → Tree → Tree → Tree
joined p a b = tree.Join (punct p 1) a b

abbrev pub prefixed : Punct → Tree → Tree
prefixed p e = tree.Before (tree.Sign (punct p 1)) e

abbrev pub assigned : Tree → Tree → Tree
assigned a b = tree.Assign a (punct marks.Assign 1) b

abbrev pub one_word : Keyword → SpecTrees
one_word w = tree.Specified (tree.OneWord (key w 1)) tree.NoSpec

abbrev pub two_words : Keyword → Keyword → SpecTrees
two_words v w = tree.Specified (tree.OneWord (key v 1)) (tree.AndSpec (tree.OneWord (key w 1)) tree.NoSpec)

abbrev pub object : List ℕ → DeclaratorTree
object bytes = tree.Declares [] (named bytes) tree.NoSuffix

abbrev pub suffixed : List ℕ → SuffixTree → DeclaratorTree
suffixed bytes s = tree.Declares [] (named bytes) (tree.AndSuffix s tree.NoSuffix)

abbrev pub array : List ℕ → Tree → DeclaratorTree
array bytes e = suffixed bytes (tree.Sized 1 e 1)

abbrev pub procedure : List ℕ → DeclaratorTree
procedure bytes = suffixed bytes (tree.VoidOnly 1 1 1)

-- a declaration of one declarator
abbrev pub declares : SpecTrees → DeclaratorTree → DeclarationTree
declares s d = record { specs = s; declared = Some (record { declarator = d; init = None }, []); semicolon = 1 }

abbrev pub begins : SpecTrees → DeclaratorTree → InitTree → DeclarationTree
begins s d i = record { specs = s; declared = Some (record { declarator = d; init = Some (1, i) }, []); semicolon = 1 }

abbrev pub values : Tree → Tree → InitTree
values a b = unit.Listed 1 (unit.Value a) (unit.AndInit 1 (unit.Value b) unit.NoInit) None 1

abbrev pub does : Tree → Statements
does e = unit.AndStatement (unit.Plain (Some e) 1) unit.NoStatement

-- `void main(void){ .. }`
abbrev pub main_with : List DeclarationTree → Statements → ItemTree
main_with ds ss = unit.Function (one_word words.Void) (procedure (codes "main")) (unit.Block 1 ds ss 1)

-- ---- units

-- `int x;` and on the next line `int x;`
abbrev pub twice : List ItemTree
twice =
    unit.Declaration (declares (one_word words.Int) (object (codes "x"))) ∷
    unit.Declaration (declares (one_word words.Int) (tree.Declares [] (named_at 2 (codes "x")) tree.NoSuffix)) ∷ []

-- `void main(void){y=1;}`
abbrev pub unknown : List ItemTree
unknown = main_with [] (does (assigned (variable (codes "y")) (number 1))) ∷ []

-- `const int x;void main(void){x=1;}`
abbrev pub writes_const : List ItemTree
writes_const =
    unit.Declaration (declares (two_words words.Const words.Int) (object (codes "x"))) ∷
    main_with [] (does (assigned (variable (codes "x")) (number 1))) ∷ []

-- `void f(int n,char a[sizeof n]);`
abbrev pub measures_param : List ItemTree
measures_param =
    unit.Declaration (declares (one_word words.Void) (suffixed (codes "f") (tree.Params 1
    (tree.Named (one_word words.Int) (object (codes "n")))
    (tree.AndParam 1 (tree.Named (one_word words.Char) (array (codes "a") (tree.Before (tree.Sizeof 1) (variable (codes "n"))))) tree.NoParam) 1))) ∷ []

-- `int f(void);int f(void)(void);`
abbrev pub gives_function : List ItemTree
gives_function =
    unit.Declaration (declares (one_word words.Int) (procedure (codes "f"))) ∷
    unit.Declaration (declares (one_word words.Int) (tree.Declares [] (named (codes "f")) (tree.AndSuffix (tree.VoidOnly 1 1 1) (tree.AndSuffix (tree.VoidOnly 1 1 1) tree.NoSuffix)))) ∷ []

-- `void main(void){break;}`
abbrev pub leaves_nothing : List ItemTree
leaves_nothing = main_with [] (unit.AndStatement (unit.Break 1 1) unit.NoStatement) ∷ []

-- `int a[1/0];`
abbrev pub divides : List ItemTree
divides = unit.Declaration (declares (one_word words.Int) (array (codes "a") (joined marks.Slash (number 1) (number 0)))) ∷ []

-- `int a[1]={1,2};`
abbrev pub too_many : List ItemTree
too_many = unit.Declaration (begins (one_word words.Int) (array (codes "a") (number 1)) (values (number 1) (number 2))) ∷ []

-- `void main(void){register int a[2];&*(a+1);}`
abbrev pub register_element : List ItemTree
register_element =
    main_with
    (declares (two_words words.Register words.Int) (array (codes "a") (number 2)) ∷ [])
    (does (prefixed marks.Ampersand (prefixed marks.Star (tree.Group 1 (joined marks.Plus (variable (codes "a")) (number 1)) 1)))) ∷ []

-- `void f(void){}void main(void){(f)();}`
abbrev pub calls_in_brackets : List ItemTree
calls_in_brackets =
    unit.Function (one_word words.Void) (procedure (codes "f")) (unit.Block 1 [] unit.NoStatement 1) ∷
    main_with [] (does (tree.Behind (tree.Group 1 (variable (codes "f")) 1) (tree.CallBare 1 1))) ∷ []

-- `void main(void){switch(1){case 1:case 1:;}}`
abbrev pub equal_labels : List ItemTree
equal_labels =
    main_with [] (unit.AndStatement (unit.Switch 1 (record { opening = 1; expr = number 1; closing = 1 }) 1
    (unit.AndLabel (unit.Case 1 (number 1) 1) (unit.AndLabel (unit.Case 1 (number 1) 1) (unit.AndInner (unit.Plain None 1) unit.NoItem))) 1) unit.NoStatement) ∷ []

-- `int a[]={1,2};`
abbrev pub takes_length : List ItemTree
takes_length = unit.Declaration (begins (one_word words.Int) (suffixed (codes "a") (tree.Unsized 1 1)) (values (number 1) (number 2))) ∷ []

-- `void main(void){PORTB=5;}`
abbrev pub to_port : List ItemTree
to_port = main_with [] (does (assigned (variable (codes "PORTB")) (number 5))) ∷ []

-- ---- names of types and enumerators

-- a name that is that of a type
abbrev pub type_name : List ℕ → SpecTree
type_name bytes = tree.NamedType (record { kind = kinds.TypeName; bytes = bytes; line = 1 })

abbrev pub of_type : List ℕ → SpecTrees
of_type bytes = tree.Specified (type_name bytes) tree.NoSpec

abbrev pub only : SpecTree → SpecTrees
only s = tree.Specified s tree.NoSpec

-- a typedef of a type that one specifier names
abbrev pub names_type : SpecTree → DeclaratorTree → ItemTree
names_type s d = unit.Declaration (declares (tree.Specified (tree.OneWord (key words.Typedef 1)) (tree.AndSpec s tree.NoSpec)) d)

abbrev pub word : Keyword → SpecTree
word w = tree.OneWord (key w 1)

-- specifiers that declare nothing else
abbrev pub alone : SpecTrees → ItemTree
alone s = unit.Declaration (record { specs = s; declared = None; semicolon = 1 })

abbrev pub bare : List ℕ → EnumeratorTree
bare bytes = tree.Bare (named bytes)

abbrev pub valued : List ℕ → Tree → EnumeratorTree
valued bytes e = tree.Valued (named bytes) 1 e

abbrev pub enumeration : Symbols → EnumeratorTree → MoreEnumerators → SpecTree
enumeration tag e es = tree.EnumBody 1 tag 1 e es None 1

abbrev pub takes : List ℕ → ParamTree → DeclaratorTree
takes bytes p = suffixed bytes (tree.Params 1 p tree.NoParam 1)

abbrev pub block_of : Statements → BlockTree
block_of ss = unit.Block 1 [] ss 1

-- `typedef int t;t x;`
abbrev pub has_named_type : List ItemTree
has_named_type = names_type (word words.Int) (object (codes "t")) ∷ unit.Declaration (declares (of_type (codes "t")) (object (codes "x"))) ∷ []

-- `typedef char*p;const p x;`
abbrev pub qualifies_pointer : List ItemTree
qualifies_pointer =
    names_type (word words.Char) (tree.Declares (punct marks.Star 1 ∷ []) (named (codes "p")) tree.NoSuffix) ∷
    unit.Declaration (declares (tree.Specified (word words.Const) (tree.AndSpec (type_name (codes "p")) tree.NoSpec)) (object (codes "x"))) ∷ []

-- `typedef const int t;const t x;`
abbrev pub qualifies_twice : List ItemTree
qualifies_twice =
    unit.Declaration (declares (tree.Specified (word words.Typedef) (tree.AndSpec (word words.Const) (tree.AndSpec (word words.Int) tree.NoSpec))) (object (codes "t"))) ∷
    unit.Declaration (declares (tree.Specified (word words.Const) (tree.AndSpec (type_name (codes "t")) tree.NoSpec)) (object (codes "x"))) ∷ []

-- `typedef char a[3];void f(a x){}`
abbrev pub takes_named_array : List ItemTree
takes_named_array =
    names_type (word words.Char) (array (codes "a") (number 3)) ∷
    unit.Function (one_word words.Void) (takes (codes "f") (tree.Named (of_type (codes "a")) (object (codes "x")))) (block_of unit.NoStatement) ∷ []

-- `typedef struct s a[2];struct s{char c;};a x;`
abbrev pub named_before_body : List ItemTree
named_before_body =
    names_type (tree.Tagged 1 (named (codes "s"))) (array (codes "a") (number 2)) ∷
    alone (only (tree.Body 1 (named (codes "s") ∷ []) 1 (tree.Members (one_word words.Char) (object (codes "c")) tree.NoDeclarator 1) tree.NoMember 1)) ∷
    unit.Declaration (declares (of_type (codes "a")) (object (codes "x"))) ∷ []

-- `typedef struct s a[2];a x;struct s{char c;};`
abbrev pub used_before_body : List ItemTree
used_before_body =
    names_type (tree.Tagged 1 (named (codes "s"))) (array (codes "a") (number 2)) ∷
    unit.Declaration (declares (of_type (codes "a")) (object (codes "x"))) ∷
    alone (only (tree.Body 1 (named (codes "s") ∷ []) 1 (tree.Members (one_word words.Char) (object (codes "c")) tree.NoDeclarator 1) tree.NoMember 1)) ∷ []

-- `typedef struct s a[2];void f(a x){}`
abbrev pub takes_open_array : List ItemTree
takes_open_array =
    names_type (tree.Tagged 1 (named (codes "s"))) (array (codes "a") (number 2)) ∷
    unit.Function (one_word words.Void) (takes (codes "f") (tree.Named (of_type (codes "a")) (object (codes "x")))) (block_of unit.NoStatement) ∷ []

-- `void f(void x[]);`
abbrev pub takes_array_of_void : List ItemTree
takes_array_of_void = unit.Declaration (declares (one_word words.Void) (takes (codes "f") (tree.Named (one_word words.Void) (suffixed (codes "x") (tree.Unsized 1 1))))) ∷ []

-- `typedef int t;int t;`
abbrev pub names_twice : List ItemTree
names_twice = names_type (word words.Int) (object (codes "t")) ∷ unit.Declaration (declares (one_word words.Int) (object (codes "t"))) ∷ []

-- `typedef void f(void);`
abbrev pub names_function : List ItemTree
names_function = names_type (word words.Void) (procedure (codes "f")) ∷ []

-- `typedef int x=1;`
abbrev pub names_value : List ItemTree
names_value = unit.Declaration (begins (two_words words.Typedef words.Int) (object (codes "x")) (unit.Value (number 1))) ∷ []

-- `typedef int;`
abbrev pub names_nothing : List ItemTree
names_nothing = alone (two_words words.Typedef words.Int) ∷ []

-- `typedef int t,a[sizeof t];`: the typedef hasn't ended, and t is a name in an expression
abbrev pub measures_type : List ItemTree
measures_type =
    unit.Declaration (record {
      specs = two_words words.Typedef words.Int;
      declared = Some (
        record { declarator = object (codes "t"); init = None },
        (1, record { declarator = array (codes "a") (tree.Before (tree.Sizeof 1) (variable (codes "t"))); init = None }) ∷ [],
      );
      semicolon = 1;
    }) ∷ []

-- `void main(void){typedef int t;}`
abbrev pub names_in_block : List ItemTree
names_in_block = main_with (declares (two_words words.Typedef words.Int) (object (codes "t")) ∷ []) unit.NoStatement ∷ []

-- `typedef int f(void){}`
abbrev pub defines_type : List ItemTree
defines_type = unit.Function (two_words words.Typedef words.Int) (procedure (codes "f")) (block_of unit.NoStatement) ∷ []

-- `enum{N=2};int a[N]={1,N};`
abbrev pub counts_by_name : List ItemTree
counts_by_name =
    alone (only (enumeration [] (valued (codes "N") (number 2)) tree.NoEnumerator)) ∷
    unit.Declaration (begins (one_word words.Int) (array (codes "a") (variable (codes "N"))) (values (number 1) (variable (codes "N")))) ∷ []

-- `enum e{A,B=5,C}x=C;enum e y;`
abbrev pub counts_on : List ItemTree
counts_on =
    unit.Declaration (begins (only (enumeration (named (codes "e") ∷ []) (bare (codes "A"))
    (tree.AndEnumerator 1 (valued (codes "B") (number 5)) (tree.AndEnumerator 1 (bare (codes "C")) tree.NoEnumerator))))
    (object (codes "x")) (unit.Value (variable (codes "C")))) ∷
    unit.Declaration (declares (only (tree.EnumTagged 1 (named (codes "e")))) (object (codes "y"))) ∷ []

-- `int f(enum{A=5}a){return A;}`: the names of the list go on in the body
abbrev pub returns_enumerator : List ItemTree
returns_enumerator =
    unit.Function (one_word words.Int) (takes (codes "f") (tree.Named (only (enumeration [] (valued (codes "A") (number 5)) tree.NoEnumerator)) (object (codes "a"))))
    (block_of (unit.AndStatement (unit.Return 1 (Some (variable (codes "A"))) 1) unit.NoStatement)) ∷ []

-- `enum{A=32767,B};`
abbrev pub counts_too_far : List ItemTree
counts_too_far = alone (only (enumeration [] (valued (codes "A") (number 32767)) (tree.AndEnumerator 1 (bare (codes "B")) tree.NoEnumerator))) ∷ []

-- `enum{A,A};`
abbrev pub equal_enumerators : List ItemTree
equal_enumerators = alone (only (enumeration [] (bare (codes "A")) (tree.AndEnumerator 1 (bare (codes "A")) tree.NoEnumerator))) ∷ []

-- `enum e{A};struct e x;`
abbrev pub other_tag : List ItemTree
other_tag =
    alone (only (enumeration (named (codes "e") ∷ []) (bare (codes "A")) tree.NoEnumerator)) ∷
    unit.Declaration (declares (only (tree.Tagged 1 (named (codes "e")))) (object (codes "x"))) ∷ []

-- `enum e x;`
abbrev pub unknown_tag : List ItemTree
unknown_tag = unit.Declaration (declares (only (tree.EnumTagged 1 (named (codes "e")))) (object (codes "x"))) ∷ []
