-- Where things stand, in pixels from the upper left corner of the lanes.
use Rattle.std.specs.Prelude.{ℕ, ◌+◌, ◌*◌, ◌-◌, ◌/◌, ◌==◌, ◌^◌, nat_lt, if◌then◌else◌}

-- the middle of the column of an event
abbrev pub across : ℕ → ℕ
across place = place * 32

-- the width of the columns of so many events
abbrev pub width : ℕ → ℕ
width events = across events + 24

-- the middle of a lane
abbrev pub down : ℕ → ℕ
down lane = lane * 40 + 20

-- the upper end of a plot below as many lanes
abbrev pub plot_top : ℕ → ℕ → ℕ
plot_top lanes number = lanes * 40 + number * 56 + 24

-- how far below the upper end of a plot a value stands: the largest one at that end, and 0 at 32
abbrev pub fall : ℕ → ℕ → ℕ
fall value most = if most == 0 then 32 else 32 - value * 32 / most

-- the width of the picture, in which the legend has room
abbrev pub page_width : ℕ → ℕ
page_width events = if nat_lt (width events + 280) 760 then 760 else width events + 280

-- its height, and where the legend stands, below plots that end there
abbrev pub page_height : ℕ → ℕ
page_height bottom = bottom + 200

abbrev pub legend_top : ℕ → ℕ
legend_top bottom = bottom + 30

-- how many are counted, of a list of this length
abbrev pub count : ℕ → ℕ
count len = if nat_lt len (2 ^ 32 - 1) then len else 2 ^ 32 - 1
