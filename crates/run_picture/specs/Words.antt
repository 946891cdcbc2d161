-- Text of others as text of XML.
use Rattle.std.specs.Prelude.{ℕ, List, [], ◌∷◌, ◌++◌, ◌==◌, ◌||◌, ◌&&◌, codes, decimal, flat_map, nat_lt, if◌then◌else◌}

-- what XML means is named; what is neither a line feed nor a printing character of ASCII is `?`
unfoldable pub escaped_byte : ℕ → List ℕ
escaped_byte b =
    if b == 38 then codes "&amp;"
    else if b == 60 then codes "&lt;"
    else if b == 62 then codes "&gt;"
    else if b == 39 then codes "&apos;"
    else if b == 34 then codes "&quot;"
    else if b == 10 || (nat_lt 31 b && nat_lt b 127) then b ∷ []
    else codes "?"

abbrev pub escaped : List ℕ → List ℕ
escaped text = flat_map escaped_byte text

abbrev pub title_text : List ℕ → List ℕ
title_text title = codes "<title>" ++ (escaped title ++ codes "</title>")

-- a name to the left of what it names, at this height
unfoldable pub name_at : ℕ → List ℕ
name_at y = codes "<text class='name' x='-14' y='" ++ (decimal y ++ codes "' dy='4'>")

abbrev pub name_text : ℕ → List ℕ → List ℕ
name_text y name = name_at y ++ (escaped name ++ codes "</text>\n")
