use Rattle.std.proofs.Common.{◌≡◌, ◌≤◌, ◌∙◌, ap, arith, false, refl, List, ℕ, ◌++◌, ◌∷◌, [], string_bytes, Some}
use Rattle.std.proofs.lemmas.Str.{IsUtf8-append, IsUtf8-from_ascii, IsUtf8-string_bytes}
use Rattle.std.proofs.lemmas.Str.Ascii.{IsAscii-cons, IsAscii-nil}
use Rattle.std.specs.Str.{IsUtf8}
use Rattle.serde_json.specs.Data.{Data, depth}
use Rattle.serde_json.specs.Read.{max_depth, read}
use Rattle.serde_json.specs.View.{view}
use Rattle.serde_json.specs.Written.{compact_text, has_float}
use Rattle.xm_netlist.specs.Documented.{doc_of}
use Rattle.xm_netlist.specs.Reading.{document_in}
use Rattle.xm_writer.specs.Writing.{data_of}
use Rattle.xm_writer.proofs.Again.{document_again}
use Rattle.xm_writer.proofs.AgainText.{data_shallow, document_in-known, has_texts}
use Rattle.xm_writer.proofs.Line.{read-line}
use Rattle.xm_writer.proofs.writing.write_document.Goals as goal

pub document_value-requires : goal.document_value-requires
document_value-requires c = has_texts (doc_of c.args.document.now) c.requires

pub returns-clause-text : goal.returns-clause-text
returns-clause-text c =
    let doc = doc_of c.args.document.now in
    let value = c.in_ok-document_value.field-0 in
    let whole : c.push_bytes-2.new.self.items ≡ string_bytes c.in_ok-written.written ++ 10 ∷ [] = c.in_ok-push_bytes-2.ensures.ok ∙ ap (λ (l : List ℕ). l ++ 10 ∷ []) (c.in_ok-push_bytes.ensures.ok ∙ rw (c.new-text.ensures.items, c.as_bytes.ensures.value) refl) in
    let plain : has_float (view value) ≡ false = rw c.in_ok-document_value.ensures ((data_shallow doc c.requires).plain) in
    whole ∙ ap (λ (l : List ℕ). l ++ 10 ∷ []) (c.in_ok-written.ensures.text plain ∙ ap compact_text c.in_ok-document_value.ensures)

pub returns-clause-again : goal.returns-clause-again
returns-clause-again c =
    let doc = doc_of c.args.document.now in
    let value = c.in_ok-document_value.field-0 in
    let text = string_bytes c.in_ok-written.written in
    let written = c.in_ok-written.ensures in
    let whole : c.push_bytes-2.new.self.items ≡ text ++ 10 ∷ [] = c.in_ok-push_bytes-2.ensures.ok ∙ ap (λ (l : List ℕ). l ++ 10 ∷ []) (c.in_ok-push_bytes.ensures.ok ∙ rw (c.new-text.ensures.items, c.as_bytes.ensures.value) refl) in
    let shallow : depth (view value) ≤ max_depth = rw c.in_ok-document_value.ensures ((data_shallow doc c.requires).low) in
    let reads : read (text ++ 10 ∷ []) ≡ Some (data_of doc) = read-line text (view value) written.compact written.order ∙ written.reads_back shallow ∙ ap (λ (d : Data). Some d) c.in_ok-document_value.ensures in
    let utf8 : IsUtf8 (text ++ 10 ∷ []) = IsUtf8-append text (10 ∷ []) (IsUtf8-string_bytes c.in_ok-written.written) (IsUtf8-from_ascii (10 ∷ []) (IsAscii-cons 10 [] (omega arith) IsAscii-nil)) in
    ap document_in whole ∙ document_in-known (text ++ 10 ∷ []) (data_of doc) utf8 reads ∙ document_again doc c.requires
