mod Leavings
