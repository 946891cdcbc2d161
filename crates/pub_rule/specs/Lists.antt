-- Lists of clients.
use Rattle.std.specs.Prelude.{◌≡◌, ◌⊎◌, ℕ, ◌+◌, ◌<◌, List, [], ◌∷◌, ◌++◌, ◌==◌, if◌then◌else◌, Option, Some, None}

-- the client is on the list
abbrev pub IsOn : ℕ → List ℕ → Type 0
IsOn c [] = ⊥
IsOn c (x ∷ xs) = (c ≡ x) ⊎ IsOn c xs

-- no client is on it twice
abbrev pub Distinct : List ℕ → Type 0
Distinct [] = Unit {0}
Distinct (c ∷ cs) = (¬ IsOn c cs) × Distinct cs

-- a list of distinct clients below n
abbrev pub IsListOf : ℕ → List ℕ → Type 0
IsListOf n list = Distinct list × ((c : ℕ) → IsOn c list → c < n)

-- the second list is the end of the first
abbrev pub EndsWith : List ℕ → List ℕ → Type 0
EndsWith list part = (front : List ℕ) × (list ≡ front ++ part)

-- the word that leads to the list: 0 where it is empty, else its first client + 1
abbrev pub link_to : List ℕ → ℕ
link_to [] = 0
link_to (c ∷ _) = c + 1

-- the first client of the list
abbrev pub head_of : List ℕ → Option ℕ
head_of [] = None
head_of (c ∷ _) = Some c

-- the part of the list behind client c
abbrev pub after : ℕ → List ℕ → List ℕ
after c [] = []
after c (x ∷ xs) = if x == c then xs else after c xs
