-- The object of a frame, whose members are written from the first to the last.
use Rattle.std.proofs.Common.{◌≡◌, ℕ, List, ◌++◌, sym, ap, ◌∙◌, codes, decimal, append_assoc}
use Rattle.wsn_rules.specs.declared.head_info.HeadInfo.{HeadInfo}
use Rattle.wsn_print.specs.HeadText.{op_word}
use Rattle.wsn_print.specs.Json.{field, string_field, number_field, boolean}
use Rattle.wsn_print.specs.Objects.{key_value, form_word, head_members, frame_object}
use Rattle.wsn_print.proofs.Appended.{two}

-- The texts after the first, the offset and the other members.
pub object_in_order : (h : HeadInfo) (t0 t1 t2 t3 : List ℕ) → t1 ≡ t0 ++ codes "{\"type\":\"frame\",\"offset\":" → t2 ≡ t1 ++ decimal h.offset
    → t3 ≡ t2 ++ (head_members h ++ codes "}\n") → t3 ≡ t0 ++ frame_object h
object_in_order h t0 t1 t2 t3 is1 is2 is3 =
    two t0 t1 t3 (codes "{\"type\":\"frame\",\"offset\":") _ is1 (two t1 t2 t3 (decimal h.offset) (head_members h ++ codes "}\n") is2 is3)
    ∙ ap (λ (t : List ℕ). t0 ++ (codes "{\"type\":\"frame\"" ++ t)) (sym (append_assoc (number_field (codes "offset") h.offset) (head_members h) (codes "}\n")))

joined : (t0 fin op key name len form end : List ℕ) → t0 ++ (fin ++ (op ++ (key ++ (name ++ (len ++ (form ++ end)))))) ≡ t0 ++ ((fin ++ op ++ key ++ (name ++ len) ++ form) ++ end)
joined t0 fin op key name len form end = simp append_assoc

-- The texts after each member that follows the offset.
pub members_in_order : (h : HeadInfo) (t0 t1 t2 t3 t4 t5 t6 : List ℕ) → t1 ≡ t0 ++ field (codes "fin") (boolean h.fin) → t2 ≡ t1 ++ string_field (codes "opcode") (op_word h.op)
    → t3 ≡ t2 ++ field (codes "key") (key_value h.key) → t4 ≡ t3 ++ codes ",\"length\":" → t5 ≡ t4 ++ decimal h.len
    → t6 ≡ t5 ++ (string_field (codes "form") (form_word h.form) ++ codes "}\n") → t6 ≡ t0 ++ (head_members h ++ codes "}\n")
members_in_order h t0 t1 t2 t3 t4 t5 t6 is1 is2 is3 is4 is5 is6 =
    two t0 t1 t6 _ _ is1 (two t1 t2 t6 _ _ is2 (two t2 t3 t6 _ _ is3 (two t3 t4 t6 _ _ is4 (two t4 t5 t6 _ _ is5 is6))))
    ∙ joined t0 (field (codes "fin") (boolean h.fin)) (string_field (codes "opcode") (op_word h.op)) (field (codes "key") (key_value h.key)) (codes ",\"length\":") (decimal h.len)
    (string_field (codes "form") (form_word h.form)) (codes "}\n")
