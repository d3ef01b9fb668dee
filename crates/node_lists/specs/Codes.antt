-- A tree as a list of its nodes, from the leaves up, which a stack turns into the tree again: a code, by which proofs
-- tell trees apart. A syntax gives the marks of a tree (each is a node, with what it holds besides its children), what
-- a mark does to a stack of trees, and that the marks of a tree put it on top.
use Rattle.std.specs.Prelude.{◌≡◌, List, [], ◌∷◌, ◌++◌}
use Rattle.std.proofs.Common.{◌∙◌, ap, append_assoc}
use Rattle.std.specs.Coded.{Coded, code_by, coded_list}

-- a function of the topmost one or two of a stack
abbrev pub on_one : {T : Type 0} → (T → T) → List T → List T
on_one f [] = []
on_one f (a ∷ rest) = f a ∷ rest

abbrev pub on_two : {T : Type 0} → (T → T → T) → List T → List T
on_two f [] = []
on_two f (b ∷ []) = []
on_two f (b ∷ a ∷ rest) = f a b ∷ rest

-- the topmost, or `none` of an empty stack
abbrev pub top : {T : Type 0} → T → List T → T
top none [] = none
top none (a ∷ rest) = a

-- what marks make of a stack, one after the other
abbrev pub stack : {M T : Type 0} → (M → List T → List T) → List M → List T → List T
stack step [] ts = ts
stack step (m ∷ ms) ts = stack step ms (step m ts)

-- the marks put the tree on top, whatever stands below and whatever follows
abbrev pub Puts : {M T : Type 0} → (M → List T → List T) → List M → T → Type 0
Puts {M = M} {T = T} step marks tree = (ms : List M) (ts : List T) → stack step (marks ++ ms) ts ≡ stack step ms (tree ∷ ts)

-- a mark behind those of one tree, and behind those of two
module _ {M T : Type 0} (step : M → List T → List T) where
  pub behind_one : (marks : List M) (a : T) (m : M) → Puts step marks a → (ms : List M) (ts : List T) → stack step ((marks ++ m ∷ []) ++ ms) ts ≡ stack step (m ∷ ms) (a ∷ ts)
  behind_one marks a m puts ms ts = ap (λ l. stack step l ts) (append_assoc marks (m ∷ []) ms) ∙ puts (m ∷ ms) ts

  pub behind_two : (marks more : List M) (a b : T) (m : M) → Puts step marks a → Puts step more b → (ms : List M) (ts : List T) → stack step ((marks ++ (more ++ m ∷ [])) ++ ms) ts ≡ stack step (m ∷ ms) (b ∷ a ∷ ts)
  behind_two marks more a b m puts puts_more ms ts =
      ap (λ l. stack step l ts) (append_assoc marks (more ++ m ∷ []) ms) ∙ puts _ ts ∙ behind_one more b m puts_more ms (a ∷ ts)

-- the code of a tree by its marks
abbrev pub coded_tree : {M T : Type 0} → Coded M → T → (step : M → List T → List T) (marks : T → List M) → ((tree : T) → Puts step (marks tree) tree) → Coded T
coded_tree {M = M} coded none step marks puts =
    code_by (List M) (coded_list coded) (λ tree. marks tree ++ []) (λ ms. top none (stack step ms [])) (λ tree. ap (top none) (puts tree [] []))
