-- What a pass of the channel knows.
use Rattle.std.specs.Prelude.{Bool, List}
use Rattle.arrival_line.specs.declared.arrival.Message.{Message}
use Rattle.arrival_line.specs.declared.arrival.Traffic.{Traffic}

abbrev pub traffic : Bool → Bool → List Message → List Message → Traffic
traffic sends receives sent got = record { sends = sends; receives = receives; sent = sent; got = got }
