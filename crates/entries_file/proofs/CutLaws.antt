-- A word that is cut at a mark.
use Rattle.std.proofs.Common.{◌≡◌, ℕ, ◌+◌, ◌<◌, ◌≤◌, Bool, true, false, nat_eq, List, [], ◌∷◌, ◌++◌, suc, subst, get_or, take, drop, length, refl, sym, ap, ◌∙◌, cond, Option, Some, None, append_assoc, drop-cons, add-one}
use Rattle.std.specs.Option.{option_map}
use Rattle.std.specs.List.{starts_with}
use Rattle.std.proofs.lemmas.List.{take_more, append-nil, drop_all}
use Rattle.entries_file.specs.Cuts.{cut}

-- these octets stand in front
abbrev pub fronted : List ℕ → Option (List ℕ × List ℕ) → Option (List ℕ × List ℕ)
fronted front None = None
fronted front (Some parts) = Some (front ++ parts.0, parts.1)

cut-yes : (mark : List ℕ) (x : ℕ) (word : List ℕ) → starts_with nat_eq (x ∷ word) mark ≡ true → cut mark (x ∷ word) ≡ Some ([], drop (length mark) (x ∷ word))
cut-yes mark x word e = ap (λ (b : Bool). cond b (Some ([], drop (length mark) (x ∷ word))) (option_map (λ parts. (x ∷ parts.0, parts.1)) (cut mark word))) e

cut-no : (mark : List ℕ) (x : ℕ) (word : List ℕ) → starts_with nat_eq (x ∷ word) mark ≡ false → cut mark (x ∷ word) ≡ option_map (λ parts. (x ∷ parts.0, parts.1)) (cut mark word)
cut-no mark x word e = ap (λ (b : Bool). cond b (Some ([], drop (length mark) (x ∷ word))) (option_map (λ parts. (x ∷ parts.0, parts.1)) (cut mark word))) e

fronted-more : (front : List ℕ) (x : ℕ) (o : Option (List ℕ × List ℕ)) → fronted front (option_map (λ parts. (x ∷ parts.0, parts.1)) o) ≡ fronted (front ++ x ∷ []) o
fronted-more front x None = refl
fronted-more front x (Some parts) = ap (λ (f : List ℕ). Some (f, parts.1)) (sym (append_assoc front (x ∷ []) parts.0))

pub fronted-nothing : (o : Option (List ℕ × List ℕ)) → fronted [] o ≡ o
fronted-nothing None = refl
fronted-nothing (Some parts) = refl

step_at : (mark front : List ℕ) (w : List ℕ) (x : ℕ) (rest : List ℕ) → w ≡ x ∷ rest → starts_with nat_eq w mark ≡ false → fronted front (cut mark w) ≡ fronted (front ++ x ∷ []) (cut mark rest)
step_at mark front w x rest e h =
    let at : starts_with nat_eq (x ∷ rest) mark ≡ false = subst (λ (u : List ℕ). starts_with nat_eq u mark ≡ false) e h in
    ap (λ (u : List ℕ). fronted front (cut mark u)) e ∙ (ap (fronted front) (cut-no mark x rest at) ∙ fronted-more front x (cut mark rest))

-- the mark doesn't stand here
pub cut_on : (mark word : List ℕ) (at : ℕ) → at < length word → starts_with nat_eq (drop at word) mark ≡ false → fronted (take at word) (cut mark (drop at word)) ≡ fronted (take (at + 1) word) (cut mark (drop (at + 1) word))
cut_on mark word at lt h =
    let head : drop at word ≡ get_or word at 0 ∷ drop (at + 1) word = rw add-one (drop-cons word at 0 lt) in
    step_at mark (take at word) (drop at word) (get_or word at 0) (drop (at + 1) word) head h
    ∙ ap (λ (f : List ℕ). fronted f (cut mark (drop (at + 1) word))) (sym (take_more word at 0 lt))

here_at : (mark front : List ℕ) (w : List ℕ) (x : ℕ) (rest : List ℕ) → w ≡ x ∷ rest → starts_with nat_eq w mark ≡ true → fronted front (cut mark w) ≡ Some (front, drop (length mark) w)
here_at mark front w x rest e h =
    let at : starts_with nat_eq (x ∷ rest) mark ≡ true = subst (λ (u : List ℕ). starts_with nat_eq u mark ≡ true) e h in
    ap (λ (u : List ℕ). fronted front (cut mark u)) e ∙ (ap (fronted front) (cut-yes mark x rest at)
    ∙ (ap (λ (f : List ℕ). Some (f, drop (length mark) (x ∷ rest))) (append-nil front) ∙ ap (λ (u : List ℕ). Some (front, drop (length mark) u)) (sym e)))

-- the mark stands here
pub cut_here : (mark word : List ℕ) (at : ℕ) → at < length word → starts_with nat_eq (drop at word) mark ≡ true → fronted (take at word) (cut mark (drop at word)) ≡ Some (take at word, drop (length mark) (drop at word))
cut_here mark word at lt h = here_at mark (take at word) (drop at word) (get_or word at 0) (drop (suc at) word) (drop-cons word at 0 lt) h

-- the mark stands nowhere
pub cut_end : (mark word : List ℕ) (at : ℕ) → length word ≤ at → fronted (take at word) (cut mark (drop at word)) ≡ None
cut_end mark word at le = ap (λ (u : List ℕ). fronted (take at word) (cut mark u)) (drop_all at word le)
