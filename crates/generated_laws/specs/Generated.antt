-- Programs of a given number of functions. The form is the project's own.
use Rattle.std.specs.Prelude.{ℕ, zero, suc, List, [], ◌∷◌, ◌++◌, codes, decimal}

abbrev pub line : List ℕ → List ℕ
line text = text ++ 10 ∷ []

-- the function of a number
abbrev pub function_line : ℕ → List ℕ
function_line i = line ((codes "unsigned char f" ++ decimal i) ++ (codes "(unsigned char x){return x+" ++ decimal i) ++ codes ";}")

-- the functions of the numbers below this one
unfoldable pub functions_text : ℕ → List ℕ
functions_text zero = []
functions_text (suc i) = functions_text i ++ function_line i

-- the line of main that calls the function of a number
abbrev pub call_line : ℕ → List ℕ
call_line i = line (codes "x=f" ++ decimal i ++ codes "(x);")

unfoldable pub calls_text : ℕ → List ℕ
calls_text zero = []
calls_text (suc i) = calls_text i ++ call_line i

-- An object that nothing uses, the functions, and main, which calls each of them once, in order.
unfoldable pub generated : ℕ → List ℕ
generated functions =
    line (codes "unsigned char s;") ++ functions_text functions ++ line (codes "void main(void){unsigned char x;") ++ line (codes "x=PORTB;")
    ++ calls_text functions ++ line (codes "PORTC=x;") ++ line (codes "}")
