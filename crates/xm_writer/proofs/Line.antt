-- A newline at the end of a written text changes nothing of what it reads as.
use Rattle.std.proofs.Common.{◌≡◌, ℕ, Bool, true, false, cond, ◌&&◌, List, [], ◌∷◌, ◌++◌, Some, option_and_then, refl, sym, ap, ap₂, ◌∙◌, append_assoc, append-nil, arith}
use Rattle.json.specs.Token.{Token, begin_object, end_object, begin_array, end_array, key, string, number, boolean, null, bad}
use Rattle.json.specs.Word.{ends_word, word}
use Rattle.json.specs.Lex.{Lexeme, token, comma, colon, string_token, lex, between, fresh, punctuate, tokens}
use Rattle.json.specs.Json.{Json, value, if_last}
use Rattle.json.specs.Print.{escape, quoted, token_text, begins, ends, print_from, print, ArePrintable, IsPrintable}
use Rattle.json.specs.Tree.{json_tokens, depth}
use Rattle.json.proofs.Printed.Strings.{content-escape, lex-escape}
use Rattle.json.proofs.Printed.Numbers.{lex-number, in_word-ended}
use Rattle.json.proofs.Printed.Trees.{value-json_tokens, ArePrintable-json_tokens}
use Rattle.json.proofs.Numbered.{ArePrintableOrBad-tokens, value-HasNumbers}
use Rattle.serde_json.specs.Data.{Data}
use Rattle.serde_json.specs.Read.{read, of_json, max_depth}
use Rattle.serde_json.specs.Written.{IsInOrder}

abbrev line : List ℕ
line = 10 ∷ []

abbrev lexemes_of : Token → List Lexeme
lexemes_of begin_object = token begin_object ∷ []
lexemes_of end_object = token end_object ∷ []
lexemes_of begin_array = token begin_array ∷ []
lexemes_of end_array = token end_array ∷ []
lexemes_of (key s) = token (string s) ∷ colon ∷ []
lexemes_of (string s) = token (string s) ∷ []
lexemes_of (number s) = token (number s) ∷ []
lexemes_of (boolean b) = token (boolean b) ∷ []
lexemes_of null = token null ∷ []
lexemes_of bad = []

lex-quoted : (s r : List ℕ) → lex between (quoted s ++ r) ≡ token (string s) ∷ lex between r
unfolding lex
lex-quoted s r =
    let e = append_assoc (escape s) (34 ∷ []) r in
    ap (λ l. lex between (34 ∷ l)) e ∙ ap₂ (λ o l. token (string_token o) ∷ l) (content-escape s r) (lex-escape s r)

lex-token : (t : Token) (r : List ℕ) → IsPrintable t → (ends t ≡ true → ends_word r ≡ true) → lex between (token_text t ++ r) ≡ lexemes_of t ++ lex between r
unfolding lex word
lex-token begin_object r h ended = refl
lex-token end_object r h ended = refl
lex-token begin_array r h ended = refl
lex-token end_array r h ended = refl
lex-token (key s) r h ended = ap (lex between) (append_assoc (quoted s) (58 ∷ []) r) ∙ lex-quoted s (58 ∷ r)
lex-token (string s) r h ended = lex-quoted s r
lex-token (number s) r h ended = lex-number s r h (ended refl)
lex-token (boolean true) r h ended = ap₂ (λ b l. token (cond b (boolean true) bad) ∷ l) (ended refl) (in_word-ended r (ended refl))
lex-token (boolean false) r h ended = ap₂ (λ b l. token (cond b (boolean false) bad) ∷ l) (ended refl) (in_word-ended r (ended refl))
lex-token null r h ended = ap₂ (λ b l. token (cond b null bad) ∷ l) (ended refl) (in_word-ended r (ended refl))
lex-token bad r h ended = absurd h

lex-separator : (b : Bool) (r : List ℕ) → lex between (cond b (44 ∷ []) [] ++ r) ≡ cond b (comma ∷ []) [] ++ lex between r
unfolding lex
lex-separator true r = refl
lex-separator false r = refl

-- after a value stands a comma, a closing bracket, a newline or nothing
value_ends : (ts : List Token) → ends_word (print_from true ts) ≡ true
unfolding print_from
value_ends [] = refl
value_ends (begin_object ∷ ts) = refl
value_ends (_ ∷ ts) = refl

value_ends_line : (ts : List Token) → ends_word (print_from true ts ++ line) ≡ true
unfolding print_from
value_ends_line [] = refl
value_ends_line (begin_object ∷ ts) = refl
value_ends_line (_ ∷ ts) = refl

-- one token of the text, whatever follows
lex-piece : (b : Bool) (t : Token) (r : List ℕ) → IsPrintable t → (ends t ≡ true → ends_word r ≡ true)
    → lex between (cond b (44 ∷ []) [] ++ (token_text t ++ r)) ≡ cond b (comma ∷ []) [] ++ (lexemes_of t ++ lex between r)
lex-piece b t r h ended = lex-separator b _ ∙ ap (λ l. cond b (comma ∷ []) [] ++ l) (lex-token t r h ended)

lex-line : (c : Bool) (ts : List Token) → ArePrintable ts → lex between (print_from c ts ++ line) ≡ lex between (print_from c ts)
unfolding lex print_from ArePrintable
lex-line c [] h = refl
lex-line c (t ∷ ts) h =
    let b = c && begins t in
    let r = print_from (ends t) ts in
    let regrouped : (cond b (44 ∷ []) [] ++ (token_text t ++ r)) ++ line ≡ cond b (44 ∷ []) [] ++ (token_text t ++ (r ++ line)) =
    append_assoc (cond b (44 ∷ []) []) (token_text t ++ r) line ∙ ap (λ (l : List ℕ). cond b (44 ∷ []) [] ++ l) (append_assoc (token_text t) r line) in
    ap (lex between) regrouped
    ∙ lex-piece b t (r ++ line) h.0 (λ e. ap (λ x. ends_word (print_from x ts ++ line)) e ∙ value_ends_line ts)
    ∙ ap (λ l. cond b (comma ∷ []) [] ++ (lexemes_of t ++ l)) (lex-line (ends t) ts h.1)
    ∙ sym (lex-piece b t r h.0 (λ e. ap (λ x. ends_word (print_from x ts)) e ∙ value_ends ts))

printable_text : (text : List ℕ) (j : Json) → tokens text ≡ json_tokens j → ArePrintable (tokens text)
printable_text text j is =
    let parsed : value (depth j) (tokens text) ≡ Some (j, []) = ap (value (depth j)) (is ∙ sym (append-nil (json_tokens j))) ∙ value-json_tokens j (depth j) [] (omega arith) in
    rw is (ArePrintable-json_tokens j (value-HasNumbers (depth j) (tokens text) [] j (ArePrintableOrBad-tokens text) parsed))

pub tokens-line : (text : List ℕ) (d : Data) → text ≡ print (tokens text) → IsInOrder text d → tokens (text ++ line) ≡ tokens text
tokens-line text d printed order =
    let good = printable_text text order.0 order.1 in
    ap (λ (t : List ℕ). punctuate fresh (lex between (t ++ line))) printed ∙ ap (punctuate fresh) (lex-line false (tokens text) good) ∙ ap (λ (t : List ℕ). punctuate fresh (lex between t)) (sym printed)

pub read-line : (text : List ℕ) (d : Data) → text ≡ print (tokens text) → IsInOrder text d → read (text ++ 10 ∷ []) ≡ read text
read-line text d printed order = ap (λ ts. option_and_then of_json (option_and_then (λ p. if_last p.0 p.1) (value max_depth ts))) (tokens-line text d printed order)
